-- The text of an inspection: what a flash algorithm says of itself (Open-CMSIS-Pack, flash programming algorithms; `FlashOS.h`).
use Rattle.std.specs.Prelude.{ℕ, ◌&&◌, nat_le, List, [], ◌∷◌, ◌++◌, length, map, codes, decimal, Option, Some, None, if◌then◌else◌}
use Rattle.std.specs.List.{concat, flat_map}
use Rattle.flm_descriptor.specs.Parts.{text_of}
use Rattle.flm_descriptor.specs.Shape.{sectors, shape}
use Rattle.flm_descriptor.specs.Shown.{Shown}
use Rattle.flm_descriptor.specs.declared.algorithm.Entries.{Entries}
use Rattle.flm_descriptor.specs.declared.device.Device.{Device}
use Rattle.flm_descriptor.specs.declared.fault.Name.{Name}
use Rattle.flm_descriptor.specs.declared.fault.Name.TheVariants.{Init, UnInit, EraseSector, ProgramPage, EraseChip, Verify}
use Rattle.flm_descriptor.specs.declared.items.SectorItem.{SectorItem}
use Rattle.octets.specs.Digit.{hex_text}

-- the pieces of a line with the line feed that ends it
abbrev pub ended : List (List ℕ) → List (List ℕ)
ended pieces = pieces ++ codes "\n" ∷ []

-- the bytes of lines, each given in pieces
abbrev pub text_of_lines : List (List (List ℕ)) → List ℕ
text_of_lines lines = concat (flat_map ended lines)

-- A byte of a name as it is printed: a dot stands for each byte that isn't a printable ASCII character.
abbrev pub printable : ℕ → ℕ
printable byte = if nat_le 0x20 byte && nat_le byte 0x7E then byte else 0x2E

unfoldable pub name_text : List ℕ → List ℕ
name_text name = codes "name " ++ map printable name ++ codes "\n"

-- the lines for the version of the interface, the type of the device, and its base and size
unfoldable pub kind_text : Device → List ℕ
kind_text device = text_of_lines (
    (codes "version " ∷ hex_text 4 device.vers ∷ [])
    ∷ (codes "type " ∷ decimal device.kind ∷ [])
    ∷ (codes "device " ∷ hex_text 8 device.base ∷ codes " " ∷ decimal device.size ∷ [])
    ∷ [])

-- the lines for the page size, the erased value, the reserved field, and the times to program a page and erase a sector
unfoldable pub values_text : Device → List ℕ
values_text device = text_of_lines (
    (codes "page " ∷ decimal device.page ∷ [])
    ∷ (codes "empty " ∷ hex_text 2 device.empty ∷ [])
    ∷ (codes "reserved " ∷ hex_text 8 device.res ∷ [])
    ∷ (codes "times " ∷ decimal device.to_prog ∷ codes " " ∷ decimal device.to_erase ∷ [])
    ∷ [])

unfoldable pub device_text : Device → List ℕ
device_text device = name_text device.name ++ kind_text device ++ values_text device

-- the line for the number of sectors
unfoldable pub count_text : ℕ → List ℕ
count_text count = text_of_lines ((codes "sectors " ∷ decimal count ∷ []) ∷ [])

-- the line for a sector item: its offset, and the size of its sectors
unfoldable pub item_text : SectorItem → List ℕ
item_text item = text_of_lines ((codes "item " ∷ hex_text 8 item.offset ∷ codes " " ∷ decimal item.size ∷ []) ∷ [])

-- the line for the lengths of code, data and zeroed data
unfoldable pub parts_text : ℕ → ℕ → ℕ → List ℕ
parts_text code init_data zeroed =
    text_of_lines ((codes "code " ∷ decimal code ∷ codes " data " ∷ decimal init_data ∷ codes " zero " ∷ decimal zeroed ∷ []) ∷ [])

-- the line for the place of a function
unfoldable pub entry_text : Name → ℕ → List ℕ
entry_text name place = text_of_lines ((codes "entry " ∷ text_of name ∷ codes " " ∷ hex_text 8 place ∷ []) ∷ [])

-- the line for a function that may be absent: it has none then
abbrev pub optional_entry_text : Name → Option ℕ → List ℕ
optional_entry_text name None = []
optional_entry_text name (Some place) = entry_text name place

unfoldable pub entries_text : Entries → List ℕ
entries_text entries =
    entry_text Init entries.init
    ++ entry_text UnInit entries.uninit
    ++ entry_text EraseSector entries.erase_sector
    ++ entry_text ProgramPage entries.program_page
    ++ optional_entry_text EraseChip entries.erase_chip
    ++ optional_entry_text Verify entries.verify

-- the whole text of an inspection
unfoldable pub inspection_text : Shown → List ℕ
inspection_text algorithm =
    device_text algorithm.device
    ++ count_text (length (sectors (shape algorithm.device.size algorithm.device.page algorithm.items)))
    ++ flat_map item_text algorithm.items
    ++ parts_text (length algorithm.code) (length algorithm.init_data) algorithm.zero_len
    ++ entries_text algorithm.entries
