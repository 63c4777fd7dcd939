-- The headers of an ELF file of 32 bits, little-endian (System V ABI, chapter 4, "Object Files", and chapter 5, "Program Header").
use Rattle.std.specs.Prelude.{ℕ, ◌+◌, ◌*◌, List, [], ◌∷◌}
use Rattle.elf32.specs.Fields.{half, word}
use Rattle.elf32.specs.declared.entries.Section.{Section}
use Rattle.elf32.specs.declared.entries.Segment.{Segment}
use Rattle.elf32.specs.declared.entries.Symbol.{Symbol}

-- the four magic bytes: 0x7F, then `ELF`
abbrev pub magic : List ℕ
magic = 127 ∷ 69 ∷ 76 ∷ 70 ∷ []

-- the fields of the ELF header that are used, by the ABI's names
unfoldable pub e_machine : List ℕ → ℕ
e_machine bytes = half bytes 18

unfoldable pub e_phoff : List ℕ → ℕ
e_phoff bytes = word bytes 28

unfoldable pub e_shoff : List ℕ → ℕ
e_shoff bytes = word bytes 32

unfoldable pub e_phentsize : List ℕ → ℕ
e_phentsize bytes = half bytes 42

unfoldable pub e_phnum : List ℕ → ℕ
e_phnum bytes = half bytes 44

unfoldable pub e_shentsize : List ℕ → ℕ
e_shentsize bytes = half bytes 46

unfoldable pub e_shnum : List ℕ → ℕ
e_shnum bytes = half bytes 48

unfoldable pub e_shstrndx : List ℕ → ℕ
e_shstrndx bytes = half bytes 50

-- section header `k`: the table's entries have 40 bytes
unfoldable pub section_at : List ℕ → ℕ → Section
section_at bytes k =
    let at = e_shoff bytes + 40 * k in
    record {
      addr = word bytes (at + 12);
      offset = word bytes (at + 16);
      size = word bytes (at + 20);
      kind = word bytes (at + 4);
      link = word bytes (at + 24);
    }

-- where the name of section `k` begins in the string table of section names
unfoldable pub section_name_at : List ℕ → ℕ → ℕ
section_name_at bytes k = word bytes (e_shoff bytes + 40 * k)

-- program header `k`: the table's entries have 32 bytes
unfoldable pub segment_at : List ℕ → ℕ → Segment
segment_at bytes k =
    let at = e_phoff bytes + 32 * k in
    record {
      kind = word bytes at;
      offset = word bytes (at + 4);
      vaddr = word bytes (at + 8);
      paddr = word bytes (at + 12);
      filesz = word bytes (at + 16);
      memsz = word bytes (at + 20);
      flags = word bytes (at + 24);
      align = word bytes (at + 28);
    }

-- the symbol table entry at a place, and its fields for the name and the section
unfoldable pub symbol_at : List ℕ → ℕ → Symbol
symbol_at bytes at = record { value = word bytes (at + 4); size = word bytes (at + 8) }

unfoldable pub symbol_name_at : List ℕ → ℕ → ℕ
symbol_name_at bytes at = word bytes at

unfoldable pub symbol_section : List ℕ → ℕ → ℕ
symbol_section bytes at = half bytes (at + 14)
