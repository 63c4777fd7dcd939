-- The fields of the ELF header and of section headers.
use Rattle.std.proofs.Common.{◌≡◌, ℕ, ◌+◌, ◌*◌, ◌<◌, ◌≤◌, ◌^◌, true, false, List, ◌++◌, length, refl, ◌∙◌, ltb, arith}
use Rattle.std.specs.Prelude.{nat_eq, Ok}
use Rattle.std.specs.List.{starts_with}
use Rattle.std.proofs.lemmas.Bool.Decides.{nat_tests}
use Rattle.std.proofs.lemmas.Nat.{from_le_bytes-to_le_bytes_4}
use Rattle.elf32.specs.declared.entries.Section.{Section}
use Rattle.elf32.specs.declared.fault.Field.{Field}
use Rattle.elf32.specs.Fields.{half, word}
use Rattle.elf32.specs.Format.{magic, e_machine, e_phoff, e_shoff, e_phnum, e_shentsize, e_shnum, e_shstrndx, section_at, section_name_at}
use Rattle.elf32.specs.Checks.{is_arm32, whole_part}
use Rattle.flm_forge.specs.declared.section.SectionHeader.{SectionHeader}
use Rattle.flm_forge.specs.Sections.{elf_header, header_bytes}
use Rattle.flm_forge.proofs.PlaceLemmas.{Stands, stands_word, stands_first, stands_part, stands_inside}

pub not_below : (a b : ℕ) → b ≤ a → ltb a b ≡ false
not_below a b h = grind (arith, nat_tests)

-- a part of a file is read whole
pub whole : (bytes part : List ℕ) (field : Field) (at size : ℕ) → Stands bytes part at → length part ≡ size → whole_part bytes field at size ≡ Ok part
unfolding whole_part
whole bytes part field at size s long =
    rw (not_below (length bytes) (at + size) (omega (arith, stands_inside bytes part at s, long)), ← long, stands_part bytes part at s) refl

-- ---- section headers

pub header_wide : (h : SectionHeader) → length (header_bytes h) ≡ 40
unfolding header_bytes
header_wide h = refl

pub record HeaderFits (h : SectionHeader) : Type 0 where
  pub name : h.name < 2 ^ 32
  pub kind : h.kind < 2 ^ 32
  pub addr : h.addr < 2 ^ 32
  pub offset : h.offset < 2 ^ 32
  pub size : h.size < 2 ^ 32
  pub link : h.link < 2 ^ 32

header_name : (h : SectionHeader) (rest : List ℕ) → h.name < 2 ^ 32 → word (header_bytes h ++ rest) 0 ≡ h.name
unfolding word header_bytes
header_name h rest fits = from_le_bytes-to_le_bytes_4 h.name fits

header_kind : (h : SectionHeader) (rest : List ℕ) → h.kind < 2 ^ 32 → word (header_bytes h ++ rest) 4 ≡ h.kind
unfolding word header_bytes
header_kind h rest fits = from_le_bytes-to_le_bytes_4 h.kind fits

header_addr : (h : SectionHeader) (rest : List ℕ) → h.addr < 2 ^ 32 → word (header_bytes h ++ rest) 12 ≡ h.addr
unfolding word header_bytes
header_addr h rest fits = from_le_bytes-to_le_bytes_4 h.addr fits

header_offset : (h : SectionHeader) (rest : List ℕ) → h.offset < 2 ^ 32 → word (header_bytes h ++ rest) 16 ≡ h.offset
unfolding word header_bytes
header_offset h rest fits = from_le_bytes-to_le_bytes_4 h.offset fits

header_size : (h : SectionHeader) (rest : List ℕ) → h.size < 2 ^ 32 → word (header_bytes h ++ rest) 20 ≡ h.size
unfolding word header_bytes
header_size h rest fits = from_le_bytes-to_le_bytes_4 h.size fits

header_link : (h : SectionHeader) (rest : List ℕ) → h.link < 2 ^ 32 → word (header_bytes h ++ rest) 24 ≡ h.link
unfolding word header_bytes
header_link h rest fits = from_le_bytes-to_le_bytes_4 h.link fits

-- a section header as it is read
abbrev pub read_header : SectionHeader → Section
read_header h = record { addr = h.addr; offset = h.offset; size = h.size; kind = h.kind; link = h.link }

pub section_at-read : (bytes : List ℕ) (k : ℕ) (h : SectionHeader) → Stands bytes (header_bytes h) (e_shoff bytes + 40 * k) → HeaderFits h
    → section_at bytes k ≡ read_header h
unfolding section_at
section_at-read bytes k h s fits =
    let at = e_shoff bytes + 40 * k in
    let addr = stands_word bytes (header_bytes h) at 12 s ∙ header_addr h s.rest fits.addr in
    let offset = stands_word bytes (header_bytes h) at 16 s ∙ header_offset h s.rest fits.offset in
    let size = stands_word bytes (header_bytes h) at 20 s ∙ header_size h s.rest fits.size in
    let kind = stands_word bytes (header_bytes h) at 4 s ∙ header_kind h s.rest fits.kind in
    let link = stands_word bytes (header_bytes h) at 24 s ∙ header_link h s.rest fits.link in
    rw (addr, offset, size, kind, link) refl

pub section_name_at-header : (bytes : List ℕ) (k : ℕ) (h : SectionHeader) → Stands bytes (header_bytes h) (e_shoff bytes + 40 * k) → HeaderFits h
    → section_name_at bytes k ≡ h.name
unfolding section_name_at
section_name_at-header bytes k h s fits =
    stands_first bytes (header_bytes h) (e_shoff bytes + 40 * k) s ∙ header_name h s.rest fits.name

-- ---- the ELF header

pub length-elf_header : (at : ℕ) → length (elf_header at) ≡ 52
unfolding elf_header
length-elf_header at = refl

-- what a reader finds in the ELF header
pub record ElfFacts (bytes : List ℕ) (at : ℕ) : Type 0 where
  pub starts : starts_with nat_eq bytes magic ≡ true
  pub arm : is_arm32 bytes ≡ true
  pub phoff : e_phoff bytes ≡ 0
  pub phnum : e_phnum bytes ≡ 0
  pub shoff : e_shoff bytes ≡ at
  pub shentsize : e_shentsize bytes ≡ 40
  pub shnum : e_shnum bytes ≡ 8
  pub shstrndx : e_shstrndx bytes ≡ 7

header_shoff : (at : ℕ) (rest : List ℕ) → at < 2 ^ 32 → e_shoff (elf_header at ++ rest) ≡ at
unfolding e_shoff word elf_header
header_shoff at rest fits = from_le_bytes-to_le_bytes_4 at fits

header_facts : (at : ℕ) (rest : List ℕ) → at < 2 ^ 32 → ElfFacts (elf_header at ++ rest) at
unfolding e_machine e_phoff e_phnum e_shentsize e_shnum e_shstrndx half word elf_header
header_facts at rest fits = record {
  starts = refl;
  arm = refl;
  phoff = refl;
  phnum = refl;
  shoff = header_shoff at rest fits;
  shentsize = refl;
  shnum = refl;
  shstrndx = refl;
}

pub elf_facts : (bytes : List ℕ) (at : ℕ) (rest : List ℕ) → bytes ≡ elf_header at ++ rest → at < 2 ^ 32 → ElfFacts bytes at
elf_facts bytes at rest is fits = rw is (header_facts at rest fits)
