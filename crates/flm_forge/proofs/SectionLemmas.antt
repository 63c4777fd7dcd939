-- What a reader finds of the sections of a made file.
use Rattle.std.proofs.Common.{◌≡◌, ℕ, ◌+◌, ◌*◌, ◌<◌, ◌^◌, true, List, [], ◌∷◌, length, get_or, Some, None, refl, sym, ap, ◌∙◌, arith}
use Rattle.std.specs.Prelude.{◌==◌, ◌&&◌, All, map, is_none, Ok}
use Rattle.std.specs.Option.{option_map}
use Rattle.std.proofs.Math.ListN.{get_or-map}
use Rattle.std.proofs.lemmas.List.Elements.{All-cons, All-get_or, All-nil}
use Rattle.elf32.specs.declared.fault.ElfFault.TheVariants.{BadName}
use Rattle.elf32.specs.declared.fault.Field.TheVariants as field
use Rattle.elf32.specs.Search.{first_below}
use Rattle.elf32.specs.Strings.{is_name, name_in, string_at}
use Rattle.elf32.specs.Format.{e_shoff, e_shnum, e_shstrndx, section_at, section_name_at}
use Rattle.elf32.specs.Checks as checks
use Rattle.elf32.specs.Tables as tables
use Rattle.flm_forge.specs.declared.section.SectionHeader.{SectionHeader}
use Rattle.flm_forge.specs.declared.sizes.Sizes.{Sizes}
use Rattle.flm_forge.specs.declared.symbol.SymbolEntry.{SymbolEntry}
use Rattle.flm_forge.specs.Places.{headers_at, descriptor_addr, end_of}
use Rattle.flm_forge.specs.Sections.{header_bytes, headers, section_names, no_section, code_header, init_data_header, zeroed_header, descriptor_header}
use Rattle.flm_forge.specs.Sections.{symbols_header, symbol_names_header, section_names_header}
use Rattle.flm_forge.proofs.PlaceLemmas.{Stands, stands_item, stands_moved}
use Rattle.flm_forge.proofs.SearchLemmas.{first_below-same}
use Rattle.flm_forge.proofs.StringLemmas.{places, kinds, has_name_and_kind, finds_no_bad_name}
use Rattle.flm_forge.proofs.HeaderLemmas.{HeaderFits, ElfFacts, elf_facts, header_wide, not_below, read_header, section_at-read, section_name_at-header, whole}
use Rattle.flm_forge.proofs.LayoutLemmas.{IsLaidOut}

-- the numbers of a symbol fit its fields
pub record SymbolFits (e : SymbolEntry) : Type 0 where
  pub name : e.name < 2 ^ 32
  pub value : e.value < 2 ^ 32
  pub size : e.size < 2 ^ 32
  pub section : e.section < 2 ^ 16

-- a file with its parts, at places that fit 32-bit fields
pub record Made : Type 0 where
  pub file : List ℕ
  pub sizes : Sizes
  pub all : List SymbolEntry
  pub code : List ℕ
  pub init_data : List ℕ
  pub descriptor : List ℕ
  pub laid : IsLaidOut file sizes all code init_data descriptor
  pub fits : end_of sizes < 2 ^ 32
  pub zero_fits : sizes.zero_len < 2 ^ 32
  pub symbols_fit : All SymbolFits all

pub facts_of : (m : Made) → ElfFacts m.file (headers_at m.sizes)
facts_of m = elf_facts m.file (headers_at m.sizes) m.laid.rest m.laid.header (omega (arith, m.fits))

addr_fits : (s : Sizes) → descriptor_addr s < 2 ^ 32
addr_fits s = omega arith

fixed_fits : (h : SectionHeader) → h.name < 100 → h.kind < 100 → h.link < 100 → h.addr < 2 ^ 32 → h.offset < 2 ^ 32 → h.size < 2 ^ 32 → HeaderFits h
fixed_fits h name kind link addr offset size =
    record { name = omega arith; kind = omega arith; addr = addr; offset = offset; size = size; link = omega arith }

eight : {X : Type 0} (P : X → Type 0) (a b c d e f g h : X) → P a → P b → P c → P d → P e → P f → P g → P h
    → All P (a ∷ b ∷ c ∷ d ∷ e ∷ f ∷ g ∷ h ∷ [])
eight P a b c d e f g h pa pb pc pd pe pf pg ph = All-cons P a (b ∷ c ∷ d ∷ e ∷ f ∷ g ∷ h ∷ []) pa
    (All-cons P b (c ∷ d ∷ e ∷ f ∷ g ∷ h ∷ []) pb (All-cons P c (d ∷ e ∷ f ∷ g ∷ h ∷ []) pc
    (All-cons P d (e ∷ f ∷ g ∷ h ∷ []) pd (All-cons P e (f ∷ g ∷ h ∷ []) pe
    (All-cons P f (g ∷ h ∷ []) pf (All-cons P g (h ∷ []) pg (All-cons P h ([]) ph (All-nil P))))))))

headers_fit : (s : Sizes) → end_of s < 2 ^ 32 → s.zero_len < 2 ^ 32 → All HeaderFits (headers s)
unfolding headers
headers_fit s fits zero =
    eight HeaderFits no_section (code_header s) (init_data_header s) (zeroed_header s) (descriptor_header s) (symbols_header s) symbol_names_header
    section_names_header
    (fixed_fits no_section (omega arith) (omega arith) (omega arith) (omega arith) (omega arith) (omega arith))
    (fixed_fits (code_header s) (omega arith) (omega arith) (omega arith) (omega arith) (omega arith) (omega arith))
    (fixed_fits (init_data_header s) (omega arith) (omega arith) (omega arith) (omega arith) (omega arith) (omega arith))
    (fixed_fits (zeroed_header s) (omega arith) (omega arith) (omega arith) (omega arith) (omega arith) (omega arith))
    (fixed_fits (descriptor_header s) (omega arith) (omega arith) (omega arith) (addr_fits s) (omega arith) (omega arith))
    (fixed_fits (symbols_header s) (omega arith) (omega arith) (omega arith) (omega arith) (omega arith) (omega arith))
    (fixed_fits symbol_names_header (omega arith) (omega arith) (omega arith) (omega arith) (omega arith) (omega arith))
    (fixed_fits section_names_header (omega arith) (omega arith) (omega arith) (omega arith) (omega arith) (omega arith))

abbrev pub header_at : Made → ℕ → SectionHeader
header_at m k = get_or (headers m.sizes) k no_section

length-headers : (s : Sizes) → length (headers s) ≡ 8
unfolding headers
length-headers s = refl

header_fits : (m : Made) (k : ℕ) → k < 8 → HeaderFits (header_at m k)
header_fits m k less =
    All-get_or HeaderFits (headers m.sizes) k no_section (omega (arith, length-headers m.sizes)) (headers_fit m.sizes m.fits m.zero_fits)

header_stands : (m : Made) (k : ℕ) → k < 8 → Stands m.file (header_bytes (header_at m k)) (e_shoff m.file + 40 * k)
header_stands m k less =
    stands_moved m.file (header_bytes (header_at m k)) (headers_at m.sizes + 40 * k) (e_shoff m.file + 40 * k)
    (stands_item header_bytes 40 header_wide m.file (headers_at m.sizes) (headers m.sizes) k no_section m.laid.at_headers
    (omega (arith, length-headers m.sizes)))
    (ap (λ (n : ℕ). n + 40 * k) (sym (facts_of m).shoff))

-- a reader finds section header `k`
pub section_is : (m : Made) (k : ℕ) → k < 8 → section_at m.file k ≡ read_header (header_at m k)
section_is m k less = section_at-read m.file k (header_at m k) (header_stands m k less) (header_fits m k less)

map_names : (s : Sizes) → map (λ (h : SectionHeader). h.name) (headers s) ≡ places
unfolding headers
map_names s = refl

map_kinds : (s : Sizes) → map (λ (h : SectionHeader). h.kind) (headers s) ≡ kinds
unfolding headers
map_kinds s = refl

place_is : (m : Made) (k : ℕ) → k < 8 → section_name_at m.file k ≡ get_or places k 0
place_is m k less =
    section_name_at-header m.file k (header_at m k) (header_stands m k less) (header_fits m k less)
    ∙ sym (get_or-map (λ (h : SectionHeader). h.name) (headers m.sizes) k no_section) ∙ ap (λ (r : List ℕ). get_or r k 0) (map_names m.sizes)

kind_is : (m : Made) (k : ℕ) → k < 8 → (section_at m.file k).kind ≡ get_or kinds k 0
kind_is m k less =
    ap (λ section. section.kind) (section_is m k less)
    ∙ sym (get_or-map (λ (h : SectionHeader). h.kind) (headers m.sizes) k no_section) ∙ ap (λ (r : List ℕ). get_or r k 0) (map_kinds m.sizes)

-- ---- names

header_seven : (s : Sizes) → get_or (headers s) 7 no_section ≡ section_names_header
unfolding headers
header_seven s = refl

length-names : length section_names ≡ 52
unfolding section_names
length-names = refl

names_are : (m : Made) → checks.names_part m.file ≡ Ok section_names
names_are m =
    let seven : section_at m.file (e_shstrndx m.file) ≡ read_header section_names_header =
    ap (section_at m.file) (facts_of m).shstrndx ∙ section_is m 7 (omega arith) ∙ ap read_header (header_seven m.sizes) in
    rw seven (whole m.file section_names field.Names 120 52 m.laid.at_section_names length-names)

has_them : (m : Made) → checks.has_names m.file ≡ true
has_them m = rw ((facts_of m).shnum, (facts_of m).shstrndx) refl

strings_are : (m : Made) → checks.section_names m.file ≡ Some section_names
unfolding checks.section_names
strings_are m = rw (names_are m, has_them m) refl

name_is : (m : Made) (k : ℕ) → k < 8 → checks.section_name m.file k ≡ string_at section_names (get_or places k 0)
unfolding checks.section_name
name_is m k less =
    ap (λ o. name_in o (section_name_at m.file k)) (strings_are m) ∙ ap (string_at section_names) (place_is m k less)

-- ---- the checks of the file

header_none : (m : Made) → checks.header_fault m.file ≡ None
unfolding checks.header_fault
header_none m = rw ((facts_of m).starts, not_below (length m.file) 52 (omega (arith, m.laid.ends)), (facts_of m).arm) refl

size_none : (m : Made) → checks.size_fault m.file ≡ None
unfolding checks.size_fault
size_none m = rw ((facts_of m).phnum, (facts_of m).shnum, (facts_of m).shentsize) refl

table_none : (m : Made) → checks.table_fault m.file ≡ None
unfolding checks.table_fault
table_none m =
    rw (
      (facts_of m).phoff,
      (facts_of m).phnum,
      (facts_of m).shoff,
      (facts_of m).shnum,
      not_below (length m.file) 0 (omega arith),
      not_below (length m.file) (headers_at m.sizes + 320) (omega (arith, m.laid.ends)),
    ) refl

index_none : (m : Made) → checks.index_fault m.file ≡ None
unfolding checks.index_fault
index_none m = rw (names_are m, (facts_of m).shnum, (facts_of m).shstrndx) refl

name_none : (m : Made) → checks.name_fault m.file ≡ None
unfolding checks.name_fault
name_none m =
    let test = λ (k : ℕ). is_none (checks.section_name m.file k) in
    let found : first_below test (e_shnum m.file) ≡ None =
    ap (first_below test) (facts_of m).shnum
    ∙ first_below-same test (λ k. is_none (string_at section_names (get_or places k 0))) 8 (λ k less. ap is_none (name_is m k less))
    ∙ finds_no_bad_name in
    ap (option_map (λ k. BadName (section_name_at m.file k))) found

pub no_fault : (m : Made) → checks.file_fault m.file ≡ None
unfolding checks.file_fault
no_fault m = rw (header_none m, size_none m, table_none m, index_none m, name_none m) refl

-- ---- sections by name

pub found_section : (m : Made) (text : List ℕ) (kind i : ℕ) → i < 8 → first_below (has_name_and_kind text kind) 8 ≡ Some i
    → tables.section_of m.file text kind ≡ Some (read_header (header_at m i))
unfolding tables.section_of
found_section m text kind i less found =
    let agree : (k : ℕ) → k < 8 → tables.is_section m.file text kind k ≡ has_name_and_kind text kind k = λ k inside.
    ap (λ o. is_name text o && (kind == (section_at m.file k).kind)) (name_is m k inside)
    ∙ ap (λ (n : ℕ). is_name text (string_at section_names (get_or places k 0)) && (kind == n)) (kind_is m k inside) in
    ap (option_map (section_at m.file))
    (ap (first_below (tables.is_section m.file text kind)) (facts_of m).shnum
    ∙ first_below-same (tables.is_section m.file text kind) (has_name_and_kind text kind) 8 agree ∙ found)
    ∙ ap Some (section_is m i less)

-- the first symbol table that a reader finds
pub found_table : (m : Made) (i : ℕ) → i < 8 → first_below (λ k. get_or kinds k 0 == 2) 8 ≡ Some i
    → tables.symbol_table m.file ≡ Some (read_header (header_at m i))
unfolding tables.symbol_table
found_table m i less found =
    let test = λ (k : ℕ). (section_at m.file k).kind == 2 in
    ap (option_map (section_at m.file))
    (ap (first_below test) (facts_of m).shnum
    ∙ first_below-same test (λ k. get_or kinds k 0 == 2) 8 (λ k inside. ap (λ (n : ℕ). n == 2) (kind_is m k inside)) ∙ found)
    ∙ ap Some (section_is m i less)
