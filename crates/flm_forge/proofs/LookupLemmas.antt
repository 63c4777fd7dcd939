-- The symbols of a listing by their names.
use Rattle.std.proofs.Common.{◌≡◌, ℕ, List, [], ◌∷◌, ◌++◌, Option, Some, None, Ok, refl, ap, ◌∙◌}
use Rattle.std.specs.Option.{option_map}
use Rattle.elf32.specs.declared.entries.Symbol.{Symbol}
use Rattle.elf32.specs.Strings.{string_at}
use Rattle.faults.specs.Results.{◌>>=◌}
use Rattle.flm_descriptor.specs.declared.fault.Name.{Name}
use Rattle.flm_descriptor.specs.declared.fault.Name.TheVariants as name
use Rattle.flm_descriptor.specs.declared.parts.Symbols.{Symbols}
use Rattle.flm_descriptor.specs.Parts.{text_of, needed_value, optional_value, symbols_of, value_in, value_or}
use Rattle.flm_descriptor.specs.Results.{from_elf}
use Rattle.flm_forge.specs.declared.symbol.SymbolEntry.{SymbolEntry}
use Rattle.flm_forge.specs.Symbols.{device_symbol, entry_symbol, no_symbol, symbol_if, symbol_names, thumb}
use Rattle.flm_forge.proofs.SectionLemmas.{Made}
use Rattle.flm_forge.proofs.SymbolLemmas.{found_among, symbol_is}

-- all symbols of a file, with these places of the entries
abbrev pub listed : (address size init uninit erase_sector program_page : ℕ) (erase_chip verify : Option ℕ) → List SymbolEntry
listed address size init uninit erase_sector program_page erase_chip verify =
    no_symbol ∷ device_symbol address size ∷ entry_symbol name.Init init ∷ entry_symbol name.UnInit uninit
    ∷ entry_symbol name.EraseSector erase_sector ∷ entry_symbol name.ProgramPage program_page
    ∷ (symbol_if name.EraseChip erase_chip ++ (symbol_if name.Verify verify ++ []))

abbrev pub function : ℕ → Symbol
function place = record { value = thumb place; size = 0 }

init_found : (address size a b c d : ℕ) (e f : Option ℕ) → found_among (text_of name.Init) (listed address size a b c d e f) ≡ Ok (Some (function a))
unfolding string_at symbol_names text_of
init_found address size a b c d e f = refl

un_init_found : (address size a b c d : ℕ) (e f : Option ℕ) → found_among (text_of name.UnInit) (listed address size a b c d e f) ≡ Ok (Some (function b))
unfolding string_at symbol_names text_of
un_init_found address size a b c d e f = refl

erase_sector_found : (address size a b c d : ℕ) (e f : Option ℕ) → found_among (text_of name.EraseSector) (listed address size a b c d e f) ≡ Ok
    (Some (function c))
unfolding string_at symbol_names text_of
erase_sector_found address size a b c d e f = refl

program_page_found : (address size a b c d : ℕ) (e f : Option ℕ) → found_among (text_of name.ProgramPage) (listed address size a b c d e f) ≡ Ok
    (Some (function d))
unfolding string_at symbol_names text_of
program_page_found address size a b c d e f = refl

device_found : (address size a b c d : ℕ) (e f : Option ℕ) → found_among (text_of name.FlashDevice) (listed address size a b c d e f) ≡ Ok
    (Some (record { value = address; size = size }))
unfolding string_at symbol_names text_of
device_found address size a b c d e f = refl

erase_chip_found : (address size a b c d : ℕ) (e f : Option ℕ) → found_among (text_of name.EraseChip) (listed address size a b c d e f) ≡ Ok
    (option_map function e)
unfolding string_at symbol_names text_of
erase_chip_found address size a b c d None None = refl
erase_chip_found address size a b c d None (Some g) = refl
erase_chip_found address size a b c d (Some h) f = refl

verify_found : (address size a b c d : ℕ) (e f : Option ℕ) → found_among (text_of name.Verify) (listed address size a b c d e f) ≡ Ok (option_map function f)
unfolding string_at symbol_names text_of
verify_found address size a b c d None None = refl
verify_found address size a b c d None (Some g) = refl
verify_found address size a b c d (Some h) None = refl
verify_found address size a b c d (Some h) (Some g) = refl

needed_is : (m : Made) (n : Name) (all : List SymbolEntry) (symbol : Symbol) → m.all ≡ all → found_among (text_of n) all ≡ Ok (Some symbol)
    → needed_value m.file n ≡ Ok symbol.value
unfolding needed_value
needed_is m n all symbol is found =
    ap (λ r. from_elf r >>= value_or n) (symbol_is m (text_of n) ∙ ap (found_among (text_of n)) is ∙ found)

values_of : (o : Option ℕ) → value_in (option_map function o) ≡ Ok (option_map thumb o)
values_of None = refl
values_of (Some place) = refl

optional_is : (m : Made) (n : Name) (all : List SymbolEntry) (o : Option ℕ) → m.all ≡ all → found_among (text_of n) all ≡ Ok (option_map function o)
    → optional_value m.file n ≡ Ok (option_map thumb o)
unfolding optional_value
optional_is m n all o is found =
    ap (λ r. from_elf r >>= value_in) (symbol_is m (text_of n) ∙ ap (found_among (text_of n)) is ∙ found) ∙ values_of o

-- the values of the symbols that a reader finds
abbrev pub values : (address a b c d : ℕ) (e f : Option ℕ) → Symbols
values address a b c d e f = record {
  init = thumb a;
  uninit = thumb b;
  erase_sector = thumb c;
  program_page = thumb d;
  device = address;
  erase_chip = option_map thumb e;
  verify = option_map thumb f;
}

pub symbols_are : (m : Made) (address size a b c d : ℕ) (e f : Option ℕ) → m.all ≡ listed address size a b c d e f
    → symbols_of m.file ≡ Ok (values address a b c d e f)
unfolding symbols_of
symbols_are m address size a b c d e f is =
    let all = listed address size a b c d e f in
    rw (
      needed_is m name.Init all _ is (init_found address size a b c d e f),
      needed_is m name.UnInit all _ is (un_init_found address size a b c d e f),
      needed_is m name.EraseSector all _ is (erase_sector_found address size a b c d e f),
      needed_is m name.ProgramPage all _ is (program_page_found address size a b c d e f),
      needed_is m name.FlashDevice all _ is (device_found address size a b c d e f),
      optional_is m name.EraseChip all e is (erase_chip_found address size a b c d e f),
      optional_is m name.Verify all f is (verify_found address size a b c d e f),
    ) refl
