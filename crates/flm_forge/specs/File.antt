-- The bytes of a made FLM file: the bytes of its parts, one after the other.
use Rattle.std.specs.Prelude.{ℕ, ◌+◌, ◌*◌, List, ◌∷◌, ◌++◌, length}
use Rattle.std.specs.List.{flat_map}
use Rattle.armv6m_asm.specs.declared.code.Code.{Code}
use Rattle.flm_forge.specs.declared.source.Listing.{Listing}
use Rattle.flm_forge.specs.declared.sizes.Sizes.{Sizes}
use Rattle.flm_forge.specs.declared.symbol.SymbolEntry.{SymbolEntry}
use Rattle.flm_forge.specs.Device.{descriptor_bytes}
use Rattle.flm_forge.specs.Places.{headers_at, descriptor_addr}
use Rattle.flm_forge.specs.Sections.{elf_header, section_names, header_bytes, headers}
use Rattle.flm_forge.specs.Symbols.{symbol_names, symbol_bytes, no_symbol, device_symbol, entry_symbols}

-- how many bytes each part has. A symbol has 16, and two symbols precede those of the entries. The fields of the device have 160 bytes, and
-- each item and the end pair have 8.
abbrev pub sizes_of : Listing → Code → Sizes
sizes_of l code = record {
  symbols = 32 + 16 * length (entry_symbols code.labels l.hidden);
  code = length code.bytes;
  init_data = length l.init_data;
  zero_len = l.zero_len;
  descriptor = 168 + 8 * length l.items;
}

-- all symbols of the file: the empty one, FlashDevice, and the entries
abbrev pub symbols : Listing → Code → List SymbolEntry
symbols l code =
    no_symbol ∷ device_symbol (descriptor_addr (sizes_of l code)) (sizes_of l code).descriptor ∷ entry_symbols code.labels l.hidden

-- the bytes of the file, with the section headers last
unfoldable pub file_of : Listing → Code → List ℕ
file_of l code =
    elf_header (headers_at (sizes_of l code)) ++ (symbol_names ++ (section_names ++ (flat_map symbol_bytes (symbols l code)
    ++ (code.bytes ++ (l.init_data ++ (descriptor_bytes l ++ flat_map header_bytes (headers (sizes_of l code))))))))
