-- A text of S-records: its image, and its fault.
use Rattle.std.specs.Prelude.{◌≡◌, ◌+◌, ◌==◌, ℕ, nat_lt, Bool, true, false, List, [], length, Option, Some, None, Ok, Err, if◌then◌else◌}
use Rattle.record_lines.specs.Cells.{Cell, cells_from}
use Rattle.record_lines.specs.Format.{Format, IsFaultOfLine, HasNoEnd}
use Rattle.image_srec.specs.declared.fault.SrecKind.{SrecKind}
use Rattle.image_srec.specs.declared.fault.SrecKind.TheVariants.{NotRecord, BadDigit, BadLength, BadSum, BadType, CountDiffers, PastEnd, Conflict, NoEnd}
use Rattle.image_srec.specs.declared.fault.SrecKind.TheVariants.{OutOfMemory}
use Rattle.image_srec.specs.declared.record.Seen.{Seen}
use Rattle.image_srec.specs.declared.record.SrecRecord.{SrecRecord}
use Rattle.image_srec.specs.declared.record.SrecRecord.TheVariants.{Header, Data, Count, End}
use Rattle.image_srec.specs.Record.{Reading, read_line}

-- how many data records there are up to a line that reads so, where `earlier` counts those before it
abbrev pub count_behind : Reading → Seen → Seen
count_behind (Ok None) earlier = earlier
count_behind (Ok (Some Header)) earlier = earlier
count_behind (Ok (Some (Data at bytes))) earlier = record { records = earlier.records + 1 }
count_behind (Ok (Some (Count said))) earlier = earlier
count_behind (Ok (Some End)) earlier = earlier
count_behind (Err fault) earlier = earlier

abbrev pub record_cells : Seen → SrecRecord → List Cell
record_cells seen Header = []
record_cells seen (Data at bytes) = cells_from at bytes
record_cells seen (Count said) = []
record_cells seen End = []

-- why a record is refused: it counts another number of data records than `seen`, or its data goes past the last address
abbrev pub refused : Seen → SrecRecord → Option SrecKind
refused seen Header = None
refused seen (Data at bytes) = if nat_lt 4294967296 (at + length bytes) then Some (PastEnd at) else None
refused seen (Count said) = if said == seen.records then None else Some (CountDiffers said seen.records)
refused seen End = None

abbrev pub is_end : SrecRecord → Bool
is_end Header = false
is_end (Data at bytes) = false
is_end (Count said) = false
is_end End = true

-- Motorola S-records as a format of records
abbrev pub srec : Format Seen SrecRecord SrecKind
srec = record {
  read = read_line;
  start = record { records = 0 };
  behind = count_behind;
  is_end = is_end;
  cells = record_cells;
  refused = refused;
  conflict = λ clash. Conflict clash.at clash.old clash.new;
}

-- a fault of a text with its line; out of memory has line 0
abbrev pub IsSrecFault : List (List ℕ) → ℕ → SrecKind → Type 0
IsSrecFault lines line NotRecord = IsFaultOfLine srec lines line NotRecord
IsSrecFault lines line BadDigit = IsFaultOfLine srec lines line BadDigit
IsSrecFault lines line BadLength = IsFaultOfLine srec lines line BadLength
IsSrecFault lines line (BadSum said due) = IsFaultOfLine srec lines line (BadSum said due)
IsSrecFault lines line (BadType value) = IsFaultOfLine srec lines line (BadType value)
IsSrecFault lines line (CountDiffers said seen) = IsFaultOfLine srec lines line (CountDiffers said seen)
IsSrecFault lines line (PastEnd at) = IsFaultOfLine srec lines line (PastEnd at)
IsSrecFault lines line (Conflict at old new) = IsFaultOfLine srec lines line (Conflict at old new)
IsSrecFault lines line NoEnd = HasNoEnd srec lines line
IsSrecFault lines line OutOfMemory = line ≡ 0
