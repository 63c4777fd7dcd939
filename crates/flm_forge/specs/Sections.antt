-- The ELF header, and the section headers with their names (System V ABI, chapter 4, "Object Files"; ELF for the Arm
-- Architecture).
use Rattle.std.specs.Prelude.{ℕ, ◌+◌, List, [], ◌∷◌, ◌++◌, codes}
use Rattle.flm_forge.specs.declared.section.SectionHeader.{SectionHeader}
use Rattle.flm_forge.specs.declared.sizes.Sizes.{Sizes}
use Rattle.flm_forge.specs.Fields.{halves_bytes, words_bytes}
use Rattle.flm_forge.specs.Places.{symbol_names_at, section_names_at, symbols_at, code_at, init_data_at, descriptor_at, descriptor_addr}

-- the 16 bytes of e_ident: the magic bytes, class 1 (32 bits), data 1 (little-endian), version 1
abbrev pub ident : List ℕ
ident = 127 ∷ 69 ∷ 76 ∷ 70 ∷ 1 ∷ 1 ∷ 1 ∷ 0 ∷ 0 ∷ 0 ∷ 0 ∷ 0 ∷ 0 ∷ 0 ∷ 0 ∷ 0 ∷ []

-- The ELF header. e_type 2 (executable), e_machine 40 (Arm), e_version 1; no entry, no program headers; e_flags of version 5 of the Arm
-- ABI; e_ehsize 52; eight section headers of 40 bytes. Section 7 has the names.
unfoldable pub elf_header : ℕ → List ℕ
elf_header headers_at =
    ident ++ (halves_bytes (2 ∷ 40 ∷ []) ++ (words_bytes (1 ∷ 0 ∷ 0 ∷ headers_at ∷ 0x0500_0000 ∷ [])
    ++ halves_bytes (52 ∷ 0 ∷ 0 ∷ 40 ∷ 8 ∷ 7 ∷ [])))

-- a string of a string table, with the zero byte that ends it
abbrev pub ended : List ℕ → List ℕ
ended text = text ++ 0 ∷ []

-- the names of the sections, padded to a multiple of 4
unfoldable pub section_names : List ℕ
section_names =
    0 ∷ (ended (codes "PrgCode") ++ (ended (codes "PrgData") ++ (ended (codes "DevDscr") ++ (ended (codes ".symtab")
    ++ (ended (codes ".strtab") ++ (ended (codes ".shstrtab") ++ 0 ∷ []))))))

-- the bytes of a section header: ten words
unfoldable pub header_bytes : SectionHeader → List ℕ
header_bytes h =
    words_bytes (h.name ∷ h.kind ∷ h.flags ∷ h.addr ∷ h.offset ∷ h.size ∷ h.link ∷ h.info ∷ h.align ∷ h.entry_size ∷ [])

-- section 0, which means no section
abbrev pub no_section : SectionHeader
no_section = record { name = 0; kind = 0; flags = 0; addr = 0; offset = 0; size = 0; link = 0; info = 0; align = 0; entry_size = 0 }

-- the header of PrgCode: type 1 (PROGBITS), flags 6 (allocated, executable)
abbrev pub code_header : Sizes → SectionHeader
code_header s = record no_section { name = 1; kind = 1; flags = 6; offset = code_at s; size = s.code; align = 4 }

-- the header of PrgData with the data: type 1, flags 3 (writable, allocated)
abbrev pub init_data_header : Sizes → SectionHeader
init_data_header s = record no_section { name = 9; kind = 1; flags = 3; addr = s.code; offset = init_data_at s; size = s.init_data; align = 1 }

-- the header of PrgData with the zeroed data: type 8 (NOBITS), with no bytes in the file
abbrev pub zeroed_header : Sizes → SectionHeader
zeroed_header s = record no_section { name = 9; kind = 8; flags = 3; addr = s.code + s.init_data; offset = descriptor_at s; size = s.zero_len; align = 1 }

-- the header of DevDscr: type 1, flags 2 (allocated)
abbrev pub descriptor_header : Sizes → SectionHeader
descriptor_header s = record no_section { name = 17; kind = 1; flags = 2; addr = descriptor_addr s; offset = descriptor_at s; size = s.descriptor; align = 1 }

-- the header of the symbols: type 2 (SYMTAB), linked to their names in section 6; the first symbol that isn't local is number 1
abbrev pub symbols_header : Sizes → SectionHeader
symbols_header s = record no_section { name = 25; kind = 2; offset = symbols_at; size = s.symbols; link = 6; info = 1; align = 4; entry_size = 16 }

-- the headers of the names of symbols and of sections: type 3 (STRTAB)
abbrev pub symbol_names_header : SectionHeader
symbol_names_header = record no_section { name = 33; kind = 3; offset = symbol_names_at; size = 68; align = 1 }

abbrev pub section_names_header : SectionHeader
section_names_header = record no_section { name = 41; kind = 3; offset = section_names_at; size = 52; align = 1 }

unfoldable pub headers : Sizes → List SectionHeader
headers s =
    no_section ∷ code_header s ∷ init_data_header s ∷ zeroed_header s ∷ descriptor_header s ∷ symbols_header s
    ∷ symbol_names_header ∷ section_names_header ∷ []
