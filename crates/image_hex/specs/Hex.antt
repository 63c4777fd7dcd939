-- A text of Intel HEX: its image, and its fault.
use Rattle.std.specs.Prelude.{◌≡◌, ◌+◌, ◌*◌, ◌%◌, ℕ, Bool, true, false, List, [], ◌∷◌, Some, None, Ok, Err}
use Rattle.record_lines.specs.Cells.{Cell}
use Rattle.record_lines.specs.Format.{Format, IsFaultOfLine, HasNoEnd}
use Rattle.image_hex.specs.declared.fault.HexKind.{HexKind}
use Rattle.image_hex.specs.declared.fault.HexKind.TheVariants.{NotRecord, BadDigit, BadLength, BadSum, BadType, Conflict, NoEnd, OutOfMemory}
use Rattle.image_hex.specs.declared.record.Base.{Base}
use Rattle.image_hex.specs.declared.record.Base.TheVariants.{Upper, Segment}
use Rattle.image_hex.specs.declared.record.HexRecord.{HexRecord}
use Rattle.image_hex.specs.declared.record.HexRecord.TheVariants.{Data, End, Sets, Ignored}
use Rattle.image_hex.specs.Record.{Reading, read_line}

-- the base after a line that reads so, where `earlier` is the base before it; a text begins with the upper half 0
abbrev pub base_behind : Reading → Base → Base
base_behind (Ok None) earlier = earlier
base_behind (Ok (Some (Data offset bytes))) earlier = earlier
base_behind (Ok (Some End)) earlier = earlier
base_behind (Ok (Some (Sets base))) earlier = base
base_behind (Ok (Some Ignored)) earlier = earlier
base_behind (Err fault) earlier = earlier

-- "Data Record": the address of the byte at an offset from a base. From an upper half, addresses continue modulo 2^32.
-- In a segment they wrap within its 64 KiB.
abbrev pub address_of : Base → ℕ → ℕ
address_of (Upper half) offset = (half * 65536 + offset) % 4294967296
address_of (Segment segment) offset = segment * 16 + offset % 65536

-- the cells of a data record, in the order of its bytes
abbrev pub data_cells : Base → ℕ → List ℕ → List Cell
data_cells base offset [] = []
data_cells base offset (byte ∷ bytes) = record { at = address_of base offset; byte = byte } ∷ data_cells base (offset + 1) bytes

abbrev pub record_cells : Base → HexRecord → List Cell
record_cells base (Data offset bytes) = data_cells base offset bytes
record_cells base End = []
record_cells base (Sets other) = []
record_cells base Ignored = []

abbrev pub is_end : HexRecord → Bool
is_end (Data offset bytes) = false
is_end End = true
is_end (Sets base) = false
is_end Ignored = false

-- Intel HEX as a format of records
abbrev pub hex : Format Base HexRecord HexKind
hex = record {
  read = read_line;
  start = Upper 0;
  behind = base_behind;
  is_end = is_end;
  cells = record_cells;
  refused = λ base r. None;
  conflict = λ clash. Conflict clash.at clash.old clash.new;
}

-- a fault of a text with its line; out of memory has line 0
abbrev pub IsHexFault : List (List ℕ) → ℕ → HexKind → Type 0
IsHexFault lines line NotRecord = IsFaultOfLine hex lines line NotRecord
IsHexFault lines line BadDigit = IsFaultOfLine hex lines line BadDigit
IsHexFault lines line BadLength = IsFaultOfLine hex lines line BadLength
IsHexFault lines line (BadSum said due) = IsFaultOfLine hex lines line (BadSum said due)
IsHexFault lines line (BadType value) = IsFaultOfLine hex lines line (BadType value)
IsHexFault lines line (Conflict at old new) = IsFaultOfLine hex lines line (Conflict at old new)
IsHexFault lines line NoEnd = HasNoEnd hex lines line
IsHexFault lines line OutOfMemory = line ≡ 0
