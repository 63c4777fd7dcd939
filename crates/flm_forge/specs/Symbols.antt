-- The symbols of a file, and their names (System V ABI, chapter 4, "Symbol Table").
use Rattle.std.specs.Prelude.{ℕ, ◌+◌, ◌-◌, ◌%◌, List, [], ◌∷◌, ◌++◌, codes, Option, Some, None}
use Rattle.std.specs.List.{flat_map}
use Rattle.armv6m_asm.specs.declared.labels.Label.{Label}
use Rattle.flm_descriptor.specs.declared.fault.Name.{Name}
use Rattle.flm_descriptor.specs.declared.fault.Name.TheVariants as name
use Rattle.flm_forge.specs.declared.symbol.SymbolEntry.{SymbolEntry}
use Rattle.flm_forge.specs.Entries.{entry_names, shown_place}
use Rattle.flm_forge.specs.Fields.{halves_bytes, words_bytes}
use Rattle.flm_forge.specs.Sections.{ended}

-- the names of the symbols, padded to a multiple of 4
unfoldable pub symbol_names : List ℕ
symbol_names =
    0 ∷ (ended (codes "Init") ++ (ended (codes "UnInit") ++ (ended (codes "EraseSector") ++ (ended (codes "ProgramPage")
    ++ (ended (codes "EraseChip") ++ (ended (codes "Verify") ++ (ended (codes "FlashDevice") ++ 0 ∷ 0 ∷ [])))))))

-- the offset of a name in the names of the symbols; 0 is the empty name
abbrev pub name_at : Name → ℕ
name_at name.PrgCode = 0
name_at name.DevDscr = 0
name_at name.Init = 1
name_at name.UnInit = 6
name_at name.EraseSector = 13
name_at name.ProgramPage = 25
name_at name.EraseChip = 37
name_at name.Verify = 47
name_at name.FlashDevice = 54

-- the 16 bytes of a symbol: three words, then info, other, and the section's number
unfoldable pub symbol_bytes : SymbolEntry → List ℕ
symbol_bytes s = words_bytes (s.name ∷ s.value ∷ s.size ∷ []) ++ (s.info ∷ 0 ∷ halves_bytes (s.section ∷ []))

-- symbol 0, which means no symbol
abbrev pub no_symbol : SymbolEntry
no_symbol = record { name = 0; value = 0; size = 0; info = 0; section = 0 }

-- the symbol of FlashDevice: info 0x11 (global, object), in section 4
abbrev pub device_symbol : ℕ → ℕ → SymbolEntry
device_symbol address size = record { name = name_at name.FlashDevice; value = address; size = size; info = 0x11; section = 4 }

-- the address of a function in Thumb code, which has bit 0 set (ELF for the Arm Architecture)
abbrev pub thumb : ℕ → ℕ
thumb place = place - place % 2 + 1

-- the symbol of an entry function: info 0x12 (global, function), in section 1
abbrev pub entry_symbol : Name → ℕ → SymbolEntry
entry_symbol named place = record { name = name_at named; value = thumb place; size = 0; info = 0x12; section = 1 }

-- the symbol of an entry function, if it has a place
abbrev pub symbol_if : Name → Option ℕ → List SymbolEntry
symbol_if named None = []
symbol_if named (Some place) = entry_symbol named place ∷ []

-- the symbols of all entry functions
unfoldable pub entry_symbols : List Label → List Name → List SymbolEntry
entry_symbols labels hidden = flat_map (λ named. symbol_if named (shown_place labels hidden named)) entry_names
