-- The named sections and symbols of an FLM file (Open-CMSIS-Pack, flash programming algorithms), and where they are.
use Rattle.std.specs.Prelude.{◌≡◌, length, IfSome, ℕ, ◌+◌, ◌-◌, ◌%◌, ◌==◌, ◌&&◌, ◌||◌, nat_lt, nat_le, Bool, List, [], codes, Option, Some, None, is_some}
use Rattle.std.specs.Prelude.{Result, Ok, Err, if◌then◌else◌}
use Rattle.std.specs.Option.{option_map}
use Rattle.elf32.specs.declared.entries.Section.{Section}
use Rattle.elf32.specs.declared.entries.Symbol.{Symbol}
use Rattle.elf32.specs.Tables.{section_of, section_part, symbol_of}
use Rattle.flm_descriptor.specs.declared.fault.FlmFault.{FlmFault}
use Rattle.flm_descriptor.specs.declared.fault.FlmFault.TheVariants.{NoSection, NoSymbol, SymbolOutside, DataBeforeCode}
use Rattle.flm_descriptor.specs.declared.fault.Name.{Name}
use Rattle.flm_descriptor.specs.declared.fault.Name.TheVariants as name
use Rattle.flm_descriptor.specs.declared.parts.Sections.{Sections}
use Rattle.flm_descriptor.specs.declared.parts.Symbols.{Symbols}
use Rattle.flm_descriptor.specs.declared.parts.DataPlaces.{DataPlaces}
use Rattle.flm_descriptor.specs.declared.algorithm.Entries.{Entries}
use Rattle.faults.specs.Results.{◌>>=◌}
use Rattle.flm_descriptor.specs.Results.{from_elf}

-- the names as a file writes them
unfoldable pub text_of : Name → List ℕ
text_of name.PrgCode = codes "PrgCode"
text_of name.DevDscr = codes "DevDscr"
text_of name.Init = codes "Init"
text_of name.UnInit = codes "UnInit"
text_of name.EraseSector = codes "EraseSector"
text_of name.ProgramPage = codes "ProgramPage"
text_of name.EraseChip = codes "EraseChip"
text_of name.Verify = codes "Verify"
text_of name.FlashDevice = codes "FlashDevice"

-- a section that must be there
abbrev pub needed : Name → Option Section → Result Section FlmFault
needed named None = Err (NoSection named)
needed named (Some section) = Ok section

-- an optional section: one of size 0 counts as absent
abbrev pub present : Option Section → Option Section
present None = None
present (Some section) = if section.size == 0 then None else Some section

-- the code, the description, the data and the zeroed data: types 1, PROGBITS, and 8, NOBITS
unfoldable pub sections_of : List ℕ → Result Sections FlmFault
sections_of bytes = do
  code ← needed name.PrgCode (section_of bytes (text_of name.PrgCode) 1)
  descriptor ← needed name.DevDscr (section_of bytes (text_of name.DevDscr) 1)
  Ok (record {
    code = code;
    init_data = present (section_of bytes (codes "PrgData") 1);
    zeroed = present (section_of bytes (codes "PrgData") 8);
    descriptor = descriptor;
  })

-- code and data are of type 1, PROGBITS
pub record AreTyped (sections : Sections) : Type 0 where
  pub code : sections.code.kind ≡ 1
  pub init_data : IfSome sections.init_data (λ section. section.kind ≡ 1)

-- the bytes of an optional section
abbrev pub optional_part : List ℕ → Option Section → Result (List ℕ) FlmFault
optional_part bytes None = Ok []
optional_part bytes (Some section) = from_elf (section_part bytes section)

-- the bytes of code, data and description
pub record Contents : Type 0 where
  pub code : List ℕ
  pub init_data : List ℕ
  pub descriptor : List ℕ

unfoldable pub contents_of : List ℕ → Sections → Result Contents FlmFault
contents_of bytes sections = do
  code ← from_elf (section_part bytes sections.code)
  init_data ← optional_part bytes sections.init_data
  descriptor ← from_elf (section_part bytes sections.descriptor)
  Ok (record { code = code; init_data = init_data; descriptor = descriptor })

-- the value of a symbol that must be there
abbrev pub value_or : Name → Option Symbol → Result ℕ FlmFault
value_or named None = Err (NoSymbol named)
value_or named (Some symbol) = Ok symbol.value

unfoldable pub needed_value : List ℕ → Name → Result ℕ FlmFault
needed_value bytes named = from_elf (symbol_of bytes (text_of named)) >>= value_or named

-- the value of a symbol that may be there
abbrev pub value_in : Option Symbol → Result (Option ℕ) FlmFault
value_in found = Ok (option_map (λ s. s.value) found)

unfoldable pub optional_value : List ℕ → Name → Result (Option ℕ) FlmFault
optional_value bytes named = from_elf (symbol_of bytes (text_of named)) >>= value_in

-- the values of the symbols
unfoldable pub symbols_of : List ℕ → Result Symbols FlmFault
symbols_of bytes = do
  init ← needed_value bytes name.Init
  uninit ← needed_value bytes name.UnInit
  erase_sector ← needed_value bytes name.EraseSector
  program_page ← needed_value bytes name.ProgramPage
  device ← needed_value bytes name.FlashDevice
  erase_chip ← optional_value bytes name.EraseChip
  verify ← optional_value bytes name.Verify
  Ok (record {
    init = init;
    uninit = uninit;
    erase_sector = erase_sector;
    program_page = program_page;
    device = device;
    erase_chip = erase_chip;
    verify = verify;
  })

-- whether an address is in a section
abbrev pub holds : Section → ℕ → Bool
holds section address = nat_le section.addr address && nat_lt address (section.addr + section.size)

-- the place in a section of an address that must be in it; a refusal names the symbol's value
abbrev pub place_of : Section → Name → ℕ → ℕ → Result ℕ FlmFault
place_of section named value address =
    if holds section address then Ok (address - section.addr) else Err (SymbolOutside named value)

-- the place of a function in the code: bit 0 of its address marks Thumb code (ELF for the Arm Architecture) and is cleared
abbrev pub entry_of : Section → Name → ℕ → Result ℕ FlmFault
entry_of code named value = place_of code named value (value - value % 2)

-- the place of a function that may be absent
abbrev pub optional_entry : Section → Name → Option ℕ → Result (Option ℕ) FlmFault
optional_entry code named None = Ok None
optional_entry code named (Some value) = entry_of code named value >>= λ place. Ok (Some place)

unfoldable pub entries_of : Section → Symbols → Result Entries FlmFault
entries_of code symbols = do
  init ← entry_of code name.Init symbols.init
  uninit ← entry_of code name.UnInit symbols.uninit
  erase_sector ← entry_of code name.EraseSector symbols.erase_sector
  program_page ← entry_of code name.ProgramPage symbols.program_page
  erase_chip ← optional_entry code name.EraseChip symbols.erase_chip
  verify ← optional_entry code name.Verify symbols.verify
  Ok (record {
    init = init;
    uninit = uninit;
    erase_sector = erase_sector;
    program_page = program_page;
    erase_chip = erase_chip;
    verify = verify;
  })

-- the end of a section, which must begin at `before` or above and end at 0xFFFFFFFF or below; an absent section ends at `before`
abbrev pub end_after : ℕ → Option Section → Result ℕ FlmFault
end_after before None = Ok before
end_after before (Some section) =
    if nat_lt section.addr before || nat_lt 0xFFFF_FFFF (section.addr + section.size)
    then Err DataBeforeCode
    else Ok (section.addr + section.size)

-- the address of a section; an absent one begins at `before`
abbrev pub start_or : ℕ → Option Section → ℕ
start_or before None = before
start_or before (Some section) = section.addr

abbrev pub size_or_none : Option Section → ℕ
size_or_none None = 0
size_or_none (Some section) = section.size

-- the places of data and zeroed data, from the start of the code; the static base is that of the data, or else of the zeroed data
unfoldable pub data_places : Sections → Result DataPlaces FlmFault
data_places sections = do
  code_end ← end_after sections.code.addr (Some sections.code)
  data_end ← end_after code_end sections.init_data
  zero_end ← end_after data_end sections.zeroed
  Ok (record {
    data_at = start_or code_end sections.init_data - sections.code.addr;
    zero_at = start_or data_end sections.zeroed - sections.code.addr;
    zero_len = size_or_none sections.zeroed;
    static_base = (if is_some sections.init_data then start_or code_end sections.init_data else start_or data_end sections.zeroed) - sections.code.addr;
  })

-- code and data have the lengths of their sections
pub record AreLong (sections : Sections) (contents : Contents) : Type 0 where
  pub code : length contents.code ≡ sections.code.size
  pub init_data : length contents.init_data ≡ size_or_none sections.init_data
