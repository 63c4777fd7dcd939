-- The parts of a made file, as a reader of FLM files finds them.
use Rattle.std.proofs.Common.{◌≡◌, ℕ, ◌+◌, ◌-◌, ◌%◌, ◌<◌, ◌≤◌, Bool, true, false, cond, get_or, Option, Some, None, Ok, refl, sym, ap, ◌∙◌, arith, ltb, leb}
use Rattle.std.specs.Prelude.{◌==◌, codes, is_some}
use Rattle.std.specs.Option.{option_map}
use Rattle.std.proofs.lemmas.Bool.{eqb-true}
use Rattle.std.proofs.lemmas.Bool.Decides.{nat_tests}
use Rattle.std.proofs.lemmas.List.{nil_from_length}
use Rattle.std.proofs.Math.Nat.{sub-zero, zero-add}
use Rattle.elf32.specs.declared.entries.Section.{Section}
use Rattle.elf32.specs.declared.fault.Field.TheVariants as field
use Rattle.elf32.specs.Tables.{section_part}
use Rattle.faults.specs.Results.{◌>>=◌}
use Rattle.flm_descriptor.specs.declared.algorithm.Entries.{Entries}
use Rattle.flm_descriptor.specs.declared.fault.Name.{Name}
use Rattle.flm_descriptor.specs.declared.fault.Name.TheVariants as name
use Rattle.flm_descriptor.specs.declared.parts.Sections.{Sections}
use Rattle.flm_descriptor.specs.Lawful.{addresses, AreInside}
use Rattle.flm_descriptor.specs.Parts.{text_of, sections_of, present, contents_of, optional_part, data_places, end_after, start_or, size_or_none, place_of}
use Rattle.flm_descriptor.specs.Parts.{entry_of, entries_of, optional_entry}
use Rattle.flm_descriptor.specs.Results.{from_elf}
use Rattle.flm_forge.specs.declared.sizes.Sizes.{Sizes}
use Rattle.flm_forge.specs.Places.{code_at, init_data_at, descriptor_at, descriptor_addr}
use Rattle.flm_forge.specs.Sections.{headers, no_section, code_header, init_data_header, zeroed_header, descriptor_header}
use Rattle.flm_forge.specs.Symbols.{thumb}
use Rattle.flm_forge.proofs.StringLemmas.{finds_code, finds_init_data, finds_zeroed, finds_descriptor}
use Rattle.flm_forge.proofs.HeaderLemmas.{not_below, read_header, whole}
use Rattle.flm_forge.proofs.SectionLemmas.{Made, found_section}
use Rattle.flm_forge.proofs.LookupLemmas.{values}

-- ---- sections

header_one : (s : Sizes) → get_or (headers s) 1 no_section ≡ code_header s
unfolding headers
header_one s = refl

header_two : (s : Sizes) → get_or (headers s) 2 no_section ≡ init_data_header s
unfolding headers
header_two s = refl

header_three : (s : Sizes) → get_or (headers s) 3 no_section ≡ zeroed_header s
unfolding headers
header_three s = refl

header_four : (s : Sizes) → get_or (headers s) 4 no_section ≡ descriptor_header s
unfolding headers
header_four s = refl

-- the sections that a reader finds
abbrev pub read_sections : Sizes → Sections
read_sections s = record {
  code = read_header (code_header s);
  init_data = present (Some (read_header (init_data_header s)));
  zeroed = present (Some (read_header (zeroed_header s)));
  descriptor = read_header (descriptor_header s);
}

pub sections_are : (m : Made) → sections_of m.file ≡ Ok (read_sections m.sizes)
unfolding sections_of text_of
sections_are m =
    let code = found_section m (codes "PrgCode") 1 1 (omega arith) finds_code ∙ ap (λ h. Some (read_header h)) (header_one m.sizes) in
    let init_data = found_section m (codes "PrgData") 1 2 (omega arith) finds_init_data ∙ ap (λ h. Some (read_header h)) (header_two m.sizes) in
    let zeroed = found_section m (codes "PrgData") 8 3 (omega arith) finds_zeroed ∙ ap (λ h. Some (read_header h)) (header_three m.sizes) in
    let descriptor = found_section m (codes "DevDscr") 1 4 (omega arith) finds_descriptor ∙ ap (λ h. Some (read_header h)) (header_four m.sizes) in
    rw (code, descriptor, init_data, zeroed) refl

-- ---- contents

code_part : (m : Made) → section_part m.file (read_header (code_header m.sizes)) ≡ Ok m.code
unfolding section_part
code_part m = whole m.file m.code field.Section (code_at m.sizes) m.sizes.code m.laid.at_code (sym m.laid.code_len)

init_data_part : (m : Made) → section_part m.file (read_header (init_data_header m.sizes)) ≡ Ok m.init_data
unfolding section_part
init_data_part m = whole m.file m.init_data field.Section (init_data_at m.sizes) m.sizes.init_data m.laid.at_init_data (sym m.laid.init_data_len)

descriptor_part : (m : Made) → section_part m.file (read_header (descriptor_header m.sizes)) ≡ Ok m.descriptor
unfolding section_part
descriptor_part m = whole m.file m.descriptor field.Section (descriptor_at m.sizes) m.sizes.descriptor m.laid.at_descriptor (sym m.laid.descriptor_len)

optional_is : (m : Made) (b : Bool) → (m.sizes.init_data == 0) ≡ b
    → optional_part m.file (cond b None (Some (read_header (init_data_header m.sizes)))) ≡ Ok m.init_data
optional_is m true none =
    ap Ok (sym (nil_from_length m.init_data (sym m.laid.init_data_len ∙ eqb-true m.sizes.init_data 0 none)))
optional_is m false some = ap from_elf (init_data_part m)

pub contents_are : (m : Made) → contents_of m.file (read_sections m.sizes) ≡ Ok (record { code = m.code; init_data = m.init_data; descriptor = m.descriptor })
unfolding contents_of
contents_are m = rw (code_part m, optional_is m (m.sizes.init_data == 0) refl, descriptor_part m) refl

-- ---- places

-- a section is where the one before it ends
end_there : (before : ℕ) (sec : Section) → sec.addr ≡ before → before + sec.size ≤ 0xFFFF_FFFF → end_after before (Some sec) ≡ Ok (before + sec.size)
end_there before sec at ends =
    let from : ltb sec.addr before ≡ false = not_below sec.addr before (omega arith) in
    let to : ltb 0xFFFF_FFFF (sec.addr + sec.size) ≡ false = not_below 0xFFFF_FFFF (sec.addr + sec.size) (omega arith) in
    rw (from, to, at) refl

-- a section that may be absent ends at its size after the one before it
end_present : (before : ℕ) (sec : Section) (b : Bool) → (sec.size == 0) ≡ b → sec.addr ≡ before → before + sec.size ≤ 0xFFFF_FFFF
    → end_after before (cond b None (Some sec)) ≡ Ok (before + sec.size)
end_present before sec true none at ends = ap Ok (omega (arith, eqb-true sec.size 0 none))
end_present before sec false some at ends = end_there before sec at ends

start_present : (before : ℕ) (sec : Section) (b : Bool) → sec.addr ≡ before → start_or before (cond b None (Some sec)) ≡ before
start_present before sec true at = refl
start_present before sec false at = at

size_present : (sec : Section) (b : Bool) → (sec.size == 0) ≡ b → size_or_none (cond b None (Some sec)) ≡ sec.size
size_present sec true none = sym (eqb-true sec.size 0 none)
size_present sec false some = refl

-- the static base is the address of the data, or of the zeroed data if there is no data
base_present : (c : ℕ) (stored zeroed : Section) (b d : Bool) → (stored.size == 0) ≡ b → stored.addr ≡ c → zeroed.addr ≡ c + stored.size
    → cond (is_some (cond b None (Some stored))) (start_or c (cond b None (Some stored))) (start_or (c + stored.size) (cond d None (Some zeroed))) ≡ c
base_present c stored zeroed true d none at behind = start_present (c + stored.size) zeroed d behind ∙ omega (arith, eqb-true stored.size 0 none)
base_present c stored zeroed false d some at behind = at

pub layout_is : (m : Made) → m.sizes.code + m.sizes.init_data + m.sizes.zero_len < addresses
    → data_places (read_sections m.sizes)
    ≡ Ok (record { data_at = m.sizes.code; zero_at = m.sizes.code + m.sizes.init_data; zero_len = m.sizes.zero_len; static_base = m.sizes.code })
unfolding data_places
layout_is m ends =
    let s = m.sizes in
    let stored = read_header (init_data_header s) in
    let zeroed = read_header (zeroed_header s) in
    let code_end : end_after 0 (Some (read_header (code_header s))) ≡ Ok s.code =
    end_there 0 (read_header (code_header s)) refl (omega arith) ∙ ap Ok (zero-add s.code) in
    let data_end = end_present s.code stored (s.init_data == 0) refl refl (omega arith) in
    let zero_end = end_present (s.code + s.init_data) zeroed (s.zero_len == 0) refl refl (omega arith) in
    let base = base_present s.code stored zeroed (s.init_data == 0) (s.zero_len == 0) refl refl refl in
    let data_at = start_present s.code stored (s.init_data == 0) refl in
    let zero_at = start_present (s.code + s.init_data) zeroed (s.zero_len == 0) refl in
    let zero_len = size_present zeroed (s.zero_len == 0) refl in
    rw (code_end, data_end, zero_end, base, data_at, zero_at, zero_len, sub-zero s.code, sub-zero (s.code + s.init_data)) refl

-- ---- symbols

not_above : (a b : ℕ) → a ≤ b → leb a b ≡ true
not_above a b h = grind (arith, nat_tests)

is_below : (a b : ℕ) → a < b → ltb a b ≡ true
is_below a b h = grind (arith, nat_tests)

-- an address is within a section
place_in : (sec : Section) (n : Name) (value address : ℕ) → sec.addr ≤ address → address < sec.addr + sec.size
    → place_of sec n value address ≡ Ok (address - sec.addr)
place_in sec n value address from to = rw (not_above sec.addr address from, is_below address (sec.addr + sec.size) to) refl

pub device_place : (m : Made) (n : Name) (value : ℕ) → 0 < m.sizes.descriptor
    → place_of (read_header (descriptor_header m.sizes)) n value (descriptor_addr m.sizes) ≡ Ok 0
device_place m n value some =
    place_in (read_header (descriptor_header m.sizes)) n value (descriptor_addr m.sizes) (omega arith) (omega arith)
    ∙ ap Ok (omega arith)

-- bit 0 of an even place's symbol is cleared
entry_place : (m : Made) (n : Name) (place : ℕ) → place % 2 ≡ 0 → place < m.sizes.code
    → entry_of (read_header (code_header m.sizes)) n (thumb place) ≡ Ok place
entry_place m n place even inside =
    let cleared : thumb place - thumb place % 2 ≡ place = omega arith in
    ap (place_of (read_header (code_header m.sizes)) n (thumb place)) cleared
    ∙ place_in (read_header (code_header m.sizes)) n (thumb place) place (omega arith) (omega arith)
    ∙ ap Ok (sub-zero place)

optional_place : (m : Made) (n : Name) (o : Option ℕ) → ((place : ℕ) → o ≡ Some place → place % 2 ≡ 0)
    → ((place : ℕ) → o ≡ Some place → place < m.sizes.code)
    → optional_entry (read_header (code_header m.sizes)) n (option_map thumb o) ≡ Ok o
optional_place m n None even inside = refl
optional_place m n (Some place) even inside =
    ap (λ r. r >>= λ p. Ok (Some p)) (entry_place m n place (even place refl) (inside place refl))

-- the entries are at even places
pub record AreEven (entries : Entries) : Type 0 where
  pub init : entries.init % 2 ≡ 0
  pub uninit : entries.uninit % 2 ≡ 0
  pub erase_sector : entries.erase_sector % 2 ≡ 0
  pub program_page : entries.program_page % 2 ≡ 0
  pub erase_chip : (place : ℕ) → entries.erase_chip ≡ Some place → place % 2 ≡ 0
  pub verify : (place : ℕ) → entries.verify ≡ Some place → place % 2 ≡ 0

pub entries_are : (m : Made) (address : ℕ) (e : Entries) → AreEven e → AreInside m.sizes.code e
    → entries_of (read_header (code_header m.sizes)) (values address e.init e.uninit e.erase_sector e.program_page e.erase_chip e.verify) ≡ Ok e
unfolding entries_of
entries_are m address e even inside =
    rw (
      entry_place m name.Init e.init even.init inside.init,
      entry_place m name.UnInit e.uninit even.uninit inside.uninit,
      entry_place m name.EraseSector e.erase_sector even.erase_sector inside.erase_sector,
      entry_place m name.ProgramPage e.program_page even.program_page inside.program_page,
      optional_place m name.EraseChip e.erase_chip even.erase_chip inside.erase_chip,
      optional_place m name.Verify e.verify even.verify inside.verify,
    ) refl
