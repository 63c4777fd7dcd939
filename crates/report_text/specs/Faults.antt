-- The texts of the faults of files: the name, then the fields, each after a space. A nested fault follows the outer name.
use Rattle.std.specs.Prelude.{ℕ, List, [], ◌∷◌, ◌++◌, codes, decimal, Option, Some, None}
use Rattle.std.specs.List.{concat}
use Rattle.board_file.specs.Table.{spelt, part_spelt}
use Rattle.board_file.specs.declared.fault.BoardFault.{BoardFault}
use Rattle.board_file.specs.declared.fault.BoardFault.TheVariants as board
use Rattle.elf32.specs.declared.fault.ElfFault.{ElfFault}
use Rattle.elf32.specs.declared.fault.ElfFault.TheVariants as elf
use Rattle.elf32.specs.declared.fault.Field.{Field}
use Rattle.elf32.specs.declared.fault.Field.TheVariants as field
use Rattle.flm_descriptor.specs.Parts.{text_of}
use Rattle.flm_descriptor.specs.declared.fault.FlmFault.{FlmFault}
use Rattle.flm_descriptor.specs.declared.fault.FlmFault.TheVariants as flm
use Rattle.image_hex.specs.declared.fault.HexKind.{HexKind}
use Rattle.image_hex.specs.declared.fault.HexKind.TheVariants as hex
use Rattle.image_more.specs.declared.fault.AnyFault.{AnyFault}
use Rattle.image_more.specs.declared.fault.AnyFault.TheVariants as any
use Rattle.image_more.specs.declared.fault.Uf2Fault.{Uf2Fault}
use Rattle.image_more.specs.declared.fault.Uf2Fault.TheVariants as uf2
use Rattle.image_set.specs.declared.fault.ImageFault.{ImageFault}
use Rattle.image_set.specs.declared.fault.ImageFault.TheVariants as image
use Rattle.image_srec.specs.declared.fault.SrecKind.{SrecKind}
use Rattle.image_srec.specs.declared.fault.SrecKind.TheVariants as srec
use Rattle.octets.specs.Digit.{hex_text}

unfoldable pub field_text : Field → List ℕ
field_text field.Header = codes "Header"
field_text field.Programs = codes "Programs"
field_text field.Sections = codes "Sections"
field_text field.Names = codes "Names"
field_text field.Symbols = codes "Symbols"
field_text field.Strings = codes "Strings"
field_text field.Section = codes "Section"
field_text field.Segment = codes "Segment"
field_text field.ProgramSize = codes "ProgramSize"
field_text field.SectionSize = codes "SectionSize"
field_text field.NameIndex = codes "NameIndex"
field_text field.Link = codes "Link"

-- the text of a fault of an ELF file
unfoldable pub elf_text : ElfFault → List ℕ
elf_text elf.OutOfMemory = codes "OutOfMemory"
elf_text elf.NotElf = codes "NotElf"
elf_text elf.NotArm32 = codes "NotArm32"
elf_text (elf.Truncated part) = concat (codes "Truncated " ∷ field_text part ∷ [])
elf_text (elf.BadIndex part value) = concat (codes "BadIndex " ∷ field_text part ∷ codes " " ∷ decimal value ∷ [])
elf_text (elf.BadName offset) = concat (codes "BadName " ∷ hex_text 8 offset ∷ [])

-- the text of a fault of an FLM file
unfoldable pub flm_text : FlmFault → List ℕ
flm_text flm.OutOfMemory = codes "OutOfMemory"
flm_text (flm.Elf fault) = codes "Elf " ++ elf_text fault
flm_text (flm.NoSection name) = concat (codes "NoSection " ∷ text_of name ∷ [])
flm_text (flm.NoSymbol name) = concat (codes "NoSymbol " ∷ text_of name ∷ [])
flm_text (flm.SymbolOutside name value) = concat (codes "SymbolOutside " ∷ text_of name ∷ codes " " ∷ hex_text 8 value ∷ [])
flm_text flm.DataBeforeCode = codes "DataBeforeCode"
flm_text flm.DescriptorShort = codes "DescriptorShort"
flm_text flm.NoSectorEnd = codes "NoSectorEnd"
flm_text (flm.BadPage size) = concat (codes "BadPage " ∷ decimal size ∷ [])
flm_text flm.SectorGap = codes "SectorGap"
flm_text (flm.SectorOrder item) = concat (codes "SectorOrder " ∷ decimal item ∷ [])
flm_text (flm.SectorSize item) = concat (codes "SectorSize " ∷ decimal item ∷ [])
flm_text (flm.BadDevice size) = concat (codes "BadDevice " ∷ decimal size ∷ [])

-- the text of a fault of a board's text, with keys and parts as that text writes them
unfoldable pub board_text : BoardFault → List ℕ
board_text board.OutOfMemory = codes "OutOfMemory"
board_text board.NotToml = codes "NotToml"
board_text (board.Missing key) = concat (codes "Missing " ∷ spelt key ∷ [])
board_text (board.BadValue key) = concat (codes "BadValue " ∷ spelt key ∷ [])
board_text (board.Overlap a b) = concat (codes "Overlap " ∷ part_spelt a ∷ codes " " ∷ part_spelt b ∷ [])
board_text (board.TooBig key) = concat (codes "TooBig " ∷ spelt key ∷ [])
board_text board.ManyRegions = codes "ManyRegions"

-- the text of two unequal bytes at an address
unfoldable pub conflict_text : ℕ → ℕ → ℕ → List ℕ
conflict_text at old new = concat (codes "Conflict " ∷ hex_text 8 at ∷ codes " " ∷ hex_text 2 old ∷ codes " " ∷ hex_text 2 new ∷ [])

-- the text of a wrong checksum: the record's own, and the one that its other bytes ask for
unfoldable pub checksum_text : ℕ → ℕ → List ℕ
checksum_text said due = concat (codes "BadSum " ∷ hex_text 2 said ∷ codes " " ∷ hex_text 2 due ∷ [])

-- the text of a wrong count record: how many data records it says there are, and how many there are
unfoldable pub counts_text : ℕ → ℕ → List ℕ
counts_text said seen = concat (codes "CountDiffers " ∷ decimal said ∷ codes " " ∷ decimal seen ∷ [])

-- the text of a fault of Intel HEX, without its line
unfoldable pub hex_kind_text : HexKind → List ℕ
hex_kind_text hex.NotRecord = codes "NotRecord"
hex_kind_text hex.BadDigit = codes "BadDigit"
hex_kind_text hex.BadLength = codes "BadLength"
hex_kind_text (hex.BadSum said due) = checksum_text said due
hex_kind_text (hex.BadType value) = concat (codes "BadType " ∷ decimal value ∷ [])
hex_kind_text (hex.Conflict at old new) = conflict_text at old new
hex_kind_text hex.NoEnd = codes "NoEnd"
hex_kind_text hex.OutOfMemory = codes "OutOfMemory"

-- the text of a fault of S-records, without its line
unfoldable pub srec_kind_text : SrecKind → List ℕ
srec_kind_text srec.NotRecord = codes "NotRecord"
srec_kind_text srec.BadDigit = codes "BadDigit"
srec_kind_text srec.BadLength = codes "BadLength"
srec_kind_text (srec.BadSum said due) = checksum_text said due
srec_kind_text (srec.BadType value) = concat (codes "BadType " ∷ decimal value ∷ [])
srec_kind_text (srec.CountDiffers said seen) = counts_text said seen
srec_kind_text (srec.PastEnd at) = concat (codes "PastEnd " ∷ hex_text 8 at ∷ [])
srec_kind_text (srec.Conflict at old new) = conflict_text at old new
srec_kind_text srec.NoEnd = codes "NoEnd"
srec_kind_text srec.OutOfMemory = codes "OutOfMemory"

-- the text of a fault of an image, without the line of the file
unfoldable pub image_text : ImageFault → List ℕ
image_text image.NoForm = codes "NoForm"
image_text (image.Hex fault) = codes "Hex " ++ hex_kind_text fault.kind
image_text (image.Srec fault) = codes "Srec " ++ srec_kind_text fault.kind
image_text (image.Elf fault) = codes "Elf " ++ elf_text fault
image_text (image.Conflict at old new) = conflict_text at old new
image_text (image.PastEnd at) = concat (codes "PastEnd " ∷ hex_text 8 at ∷ [])
image_text (image.OutsideDevice at) = concat (codes "OutsideDevice " ∷ hex_text 8 at ∷ [])
image_text image.EmptyImage = codes "EmptyImage"
image_text image.OutOfMemory = codes "OutOfMemory"

-- the text of a fault of a UF2 file
unfoldable pub uf2_text : Uf2Fault → List ℕ
uf2_text (uf2.BadLength len) = concat (codes "BadLength " ∷ decimal len ∷ [])
uf2_text (uf2.BadMagic block) = concat (codes "BadMagic " ∷ decimal block ∷ [])
uf2_text (uf2.BadSize block size) = concat (codes "BadSize " ∷ decimal block ∷ codes " " ∷ decimal size ∷ [])
uf2_text (uf2.Conflict at old new) = conflict_text at old new
uf2_text (uf2.PastEnd at) = concat (codes "PastEnd " ∷ hex_text 8 at ∷ [])
uf2_text uf2.OutOfMemory = codes "OutOfMemory"

-- the text of a fault of a file of any form; it names the form first only for UF2
unfoldable pub any_text : AnyFault → List ℕ
any_text (any.Image fault) = image_text fault
any_text (any.Uf2 fault) = codes "Uf2 " ++ uf2_text fault
any_text any.OutOfMemory = codes "OutOfMemory"

-- the number of the line at fault, in a file that is read by lines
abbrev pub faulty_line : AnyFault → Option ℕ
faulty_line (any.Image (image.Hex fault)) = Some fault.line
faulty_line (any.Image (image.Srec fault)) = Some fault.line
faulty_line other = None

-- the name of an image's file, and the number of the line if there is one
unfoldable pub place_text : List ℕ → Option ℕ → List ℕ
place_text name None = concat (codes "image " ∷ name ∷ codes ": " ∷ [])
place_text name (Some line) = concat (codes "image " ∷ name ∷ codes " line " ∷ decimal line ∷ codes ": " ∷ [])

abbrev pub file_text : List ℕ → AnyFault → List ℕ
file_text name fault = place_text name (faulty_line fault)
