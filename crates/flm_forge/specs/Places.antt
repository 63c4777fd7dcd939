-- Where the parts of a file are. The parts of fixed length come first: the ELF header, the names of symbols, and the names of sections. The
-- symbols, the code, the data, the description and the section headers follow.
use Rattle.std.specs.Prelude.{ℕ, ◌+◌, ◌%◌, ◌^◌}
use Rattle.flm_forge.specs.declared.sizes.Sizes.{Sizes}

abbrev pub symbol_names_at : ℕ
symbol_names_at = 52

abbrev pub section_names_at : ℕ
section_names_at = 120

abbrev pub symbols_at : ℕ
symbols_at = 172

abbrev pub code_at : Sizes → ℕ
code_at sizes = 172 + sizes.symbols

abbrev pub init_data_at : Sizes → ℕ
init_data_at sizes = code_at sizes + sizes.code

abbrev pub descriptor_at : Sizes → ℕ
descriptor_at sizes = init_data_at sizes + sizes.init_data

abbrev pub headers_at : Sizes → ℕ
headers_at sizes = descriptor_at sizes + sizes.descriptor

-- the offset of the file's end: after eight section headers of 40 bytes
abbrev pub end_of : Sizes → ℕ
end_of sizes = headers_at sizes + 320

-- the address of the description: after code, data and zeroed data. The code begins at address 0.
abbrev pub descriptor_addr : Sizes → ℕ
descriptor_addr sizes = (sizes.code + sizes.init_data + sizes.zero_len) % 2 ^ 32
