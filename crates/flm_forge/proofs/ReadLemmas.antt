-- A made file is the FLM file of its listing's algorithm.
use Rattle.std.proofs.Common.{◌≡◌, ℕ, ◌<◌, ◌^◌, ◌%◌, List, [], ◌∷◌, ◌++◌, Option, Some, refl, ap, arith}
use Rattle.std.specs.Prelude.{All}
use Rattle.armv6m_asm.specs.declared.code.Code.{Code}
use Rattle.armv6m_asm.specs.declared.labels.Label.{Label}
use Rattle.flm_descriptor.specs.declared.algorithm.Entries.{Entries}
use Rattle.flm_descriptor.specs.declared.fault.Name.TheVariants as name
use Rattle.flm_descriptor.specs.Flm.{IsFlm, algorithm_of, flm_of}
use Rattle.flm_forge.specs.declared.source.Listing.{Listing}
use Rattle.flm_forge.specs.declared.symbol.SymbolEntry.{SymbolEntry}
use Rattle.flm_forge.specs.Device.{ListingFits, descriptor_bytes}
use Rattle.flm_forge.specs.Entries.{AreEntries}
use Rattle.flm_forge.specs.File.{file_of, sizes_of, symbols}
use Rattle.flm_forge.specs.Places.{descriptor_addr, end_of}
use Rattle.flm_forge.specs.Read as read
use Rattle.flm_forge.specs.Symbols.{device_symbol, entry_symbols, no_symbol, symbol_if}
use Rattle.flm_forge.proofs.LayoutLemmas.{laid_out}
use Rattle.flm_forge.proofs.SectionLemmas.{Made, SymbolFits, no_fault}
use Rattle.flm_forge.proofs.LookupLemmas.{listed, symbols_are, values}
use Rattle.flm_forge.proofs.PartLemmas.{AreEven, contents_are, device_place, entries_are, layout_is, sections_are}
use Rattle.flm_forge.proofs.DescriptionLemmas.{described_is}

-- the numbers of a listing and of its symbols fit their fields
pub record NumbersFit (l : Listing) (code : Code) : Type 0 where
  pub listing : ListingFits l
  pub zero_len : l.zero_len < 2 ^ 32
  pub symbols_fit : All SymbolFits (symbols l code)

-- the places of the labels are even
abbrev pub AreEvenLabels : Code → Type 0
AreEvenLabels code = All (λ (label : Label). label.place % 2 ≡ 0) code.labels

-- the symbols of the entries that have a place
abbrev pub shown_symbols : (a b c d e f : Option ℕ) → List SymbolEntry
shown_symbols a b c d e f =
    symbol_if name.Init a ++ (symbol_if name.UnInit b ++ (symbol_if name.EraseSector c ++ (symbol_if name.ProgramPage d
    ++ (symbol_if name.EraseChip e ++ (symbol_if name.Verify f ++ [])))))

entries_shown : (l : Listing) (code : Code) (e : Entries) → AreEntries code.labels l.hidden e
    → entry_symbols code.labels l.hidden
    ≡ shown_symbols (Some e.init) (Some e.uninit) (Some e.erase_sector) (Some e.program_page) e.erase_chip e.verify
unfolding entry_symbols
entries_shown l code e are =
    rw (are.init, are.uninit, are.erase_sector, are.program_page, are.erase_chip, are.verify) refl

symbols_listed : (l : Listing) (code : Code) (e : Entries) → AreEntries code.labels l.hidden e
    → symbols l code ≡ listed (descriptor_addr (sizes_of l code)) (sizes_of l code).descriptor e.init e.uninit e.erase_sector e.program_page e.erase_chip
    e.verify
symbols_listed l code e are =
    ap (λ (es : List SymbolEntry). no_symbol ∷ device_symbol (descriptor_addr (sizes_of l code)) (sizes_of l code).descriptor ∷ es) (entries_shown l code e are)

-- the made file, with its parts
abbrev made : (l : Listing) (code : Code) → end_of (sizes_of l code) < 2 ^ 32 → NumbersFit l code → Made
made l code fits numbers = record {
  file = file_of l code;
  sizes = sizes_of l code;
  all = symbols l code;
  code = code.bytes;
  init_data = l.init_data;
  descriptor = descriptor_bytes l;
  laid = laid_out l code;
  fits = fits;
  zero_fits = numbers.zero_len;
  symbols_fit = numbers.symbols_fit;
}

pub read_made : (l : Listing) (code : Code) (e : Entries) → end_of (sizes_of l code) < 2 ^ 32 → NumbersFit l code → AreEven e
    → read.IsReadable l code e → IsFlm (file_of l code) (read.algorithm_of l code.bytes e)
unfolding flm_of algorithm_of
read_made l code e fits numbers even readable =
    let m = made l code fits numbers in
    let s = sizes_of l code in
    let address = descriptor_addr s in
    let shown = values address e.init e.uninit e.erase_sector e.program_page e.erase_chip e.verify in
    rw (
      no_fault m,
      sections_are m,
      contents_are m,
      symbols_are m address s.descriptor e.init e.uninit e.erase_sector e.program_page e.erase_chip e.verify (symbols_listed l code e readable.labelled),
      entries_are m address e even readable.inside,
      device_place m name.FlashDevice address (omega arith),
      layout_is m readable.ends,
      described_is l numbers.listing readable.name readable.no_end readable.few readable.limits,
    ) refl
