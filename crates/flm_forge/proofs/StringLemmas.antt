-- The strings of the tables of names.
use Rattle.std.proofs.Common.{◌≡◌, ℕ, Bool, List, [], ◌∷◌, Some, None, refl, get_or}
use Rattle.std.specs.Prelude.{◌==◌, ◌&&◌, codes, is_none}
use Rattle.elf32.specs.Search.{first_below}
use Rattle.elf32.specs.Strings.{is_name, string_at}
use Rattle.flm_descriptor.specs.declared.fault.Name.TheVariants as name
use Rattle.flm_descriptor.specs.Parts.{text_of}
use Rattle.flm_forge.specs.Sections.{section_names}
use Rattle.flm_forge.specs.Symbols.{symbol_names, name_at}

-- the offsets of the names of the sections, and their types
abbrev pub places : List ℕ
places = 0 ∷ 1 ∷ 9 ∷ 9 ∷ 17 ∷ 25 ∷ 33 ∷ 41 ∷ []

abbrev pub kinds : List ℕ
kinds = 0 ∷ 1 ∷ 1 ∷ 8 ∷ 1 ∷ 2 ∷ 3 ∷ 3 ∷ []

abbrev pub has_name_and_kind : List ℕ → ℕ → ℕ → Bool
has_name_and_kind text kind k = is_name text (string_at section_names (get_or places k 0)) && (kind == get_or kinds k 0)

pub finds_code : first_below (has_name_and_kind (codes "PrgCode") 1) 8 ≡ Some 1
unfolding first_below string_at section_names
finds_code = refl

pub finds_init_data : first_below (has_name_and_kind (codes "PrgData") 1) 8 ≡ Some 2
unfolding first_below string_at section_names
finds_init_data = refl

pub finds_zeroed : first_below (has_name_and_kind (codes "PrgData") 8) 8 ≡ Some 3
unfolding first_below string_at section_names
finds_zeroed = refl

pub finds_descriptor : first_below (has_name_and_kind (codes "DevDscr") 1) 8 ≡ Some 4
unfolding first_below string_at section_names
finds_descriptor = refl

pub finds_symbols : first_below (λ k. get_or kinds k 0 == 2) 8 ≡ Some 5
unfolding first_below
finds_symbols = refl

pub finds_no_bad_name : first_below (λ k. is_none (string_at section_names (get_or places k 0))) 8 ≡ None
unfolding first_below string_at section_names
finds_no_bad_name = refl

-- the names of the symbols
pub no_symbol_string : string_at symbol_names 0 ≡ Some []
unfolding string_at symbol_names
no_symbol_string = refl

pub init_string : string_at symbol_names (name_at name.Init) ≡ Some (text_of name.Init)
unfolding string_at symbol_names text_of
init_string = refl

pub un_init_string : string_at symbol_names (name_at name.UnInit) ≡ Some (text_of name.UnInit)
unfolding string_at symbol_names text_of
un_init_string = refl

pub erase_sector_string : string_at symbol_names (name_at name.EraseSector) ≡ Some (text_of name.EraseSector)
unfolding string_at symbol_names text_of
erase_sector_string = refl

pub program_page_string : string_at symbol_names (name_at name.ProgramPage) ≡ Some (text_of name.ProgramPage)
unfolding string_at symbol_names text_of
program_page_string = refl

pub erase_chip_string : string_at symbol_names (name_at name.EraseChip) ≡ Some (text_of name.EraseChip)
unfolding string_at symbol_names text_of
erase_chip_string = refl

pub verify_string : string_at symbol_names (name_at name.Verify) ≡ Some (text_of name.Verify)
unfolding string_at symbol_names text_of
verify_string = refl

pub device_string : string_at symbol_names (name_at name.FlashDevice) ≡ Some (text_of name.FlashDevice)
unfolding string_at symbol_names text_of
device_string = refl
