-- What a text of records says, line by line. A line is judged by itself and by the lines before it.
use Rattle.std.specs.Prelude.{◌≡◌, ◌+◌, ◌<◌, ◌≤◌, ℕ, zero, suc, min, Bool, true, false, List, [], ◌++◌, length, get_or, Option, Some, None, Result, Ok, Err}
use Rattle.std.specs.Bool.{OnTrue}
use Rattle.byte_map.specs.Image.{Run}
use Rattle.record_lines.specs.Cells.{Cell, AreConsistent, Clash, first_clash, IsImageOf}
use Rattle.record_lines.specs.declared.fault.LineFault.{LineFault}
use Rattle.record_lines.specs.declared.fault.LineFault.TheVariants as line
use Rattle.record_lines.specs.declared.fault.LineFault.TheVariants.{Refused}
use Rattle.record_lines.specs.declared.fault.TextFault.{TextFault}
use Rattle.record_lines.specs.declared.fault.TextFault.TheVariants as text
use Rattle.record_lines.specs.declared.fault.TextFault.TheVariants.{Line, NoEnd}

-- a format of records R, with faults F. C is what has to be known of the lines before a record.
pub record Format (C R F : Type 0) : Type 0 where
  -- what a line reads as by itself: nothing where it is blank, a record, or a fault
  pub read : List ℕ → Result (Option R) F
  -- what is known before the first line
  pub start : C
  -- what is known after a line that reads so, where this C is known before it
  pub behind : Result (Option R) F → C → C
  -- whether a record ends the text
  pub is_end : R → Bool
  -- the cells of a record, in the order of its bytes
  pub cells : C → R → List Cell
  -- why a record is refused after those lines, before its bytes are compared with theirs
  pub refused : C → R → Option F
  -- the fault of a record that has another byte at an address than an earlier record
  pub conflict : Clash → F

-- the line at a place, from 0 on
abbrev pub line_at : List (List ℕ) → ℕ → List ℕ
line_at lines n = get_or lines n []

-- what is known after the lines before a place
abbrev pub context_before : {C R F : Type 0} → Format C R F → List (List ℕ) → ℕ → C
context_before f lines zero = f.start
context_before f lines (suc n) = f.behind (f.read (line_at lines n)) (context_before f lines n)

-- the cells of a line that reads so
abbrev pub line_cells : {C R F : Type 0} → Format C R F → C → Result (Option R) F → List Cell
line_cells f c (Ok None) = []
line_cells f c (Ok (Some r)) = f.cells c r
line_cells f c (Err fault) = []

-- whether a line that reads so ends the text
abbrev pub line_ends : {C R F : Type 0} → Format C R F → Result (Option R) F → Bool
line_ends f (Ok None) = false
line_ends f (Ok (Some r)) = f.is_end r
line_ends f (Err fault) = false

-- the first fault of a record: a fault that was found already, or else a clash
abbrev pub or_clash : {C R F : Type 0} → Format C R F → Option F → Option Clash → Option F
or_clash f (Some fault) clash = Some fault
or_clash f None None = None
or_clash f None (Some clash) = Some (f.conflict clash)

-- the fault of a line that reads so, if it has one, where c is known of the lines before it and `before` are their cells
abbrev pub line_fault : {C R F : Type 0} → Format C R F → C → List Cell → Result (Option R) F → Option F
line_fault f c before (Ok None) = None
line_fault f c before (Ok (Some r)) = or_clash f (f.refused c r) (first_clash before (f.cells c r))
line_fault f c before (Err fault) = Some fault

-- the cells of the lines before a place
abbrev pub cells_before : {C R F : Type 0} → Format C R F → List (List ℕ) → ℕ → List Cell
cells_before f lines zero = []
cells_before f lines (suc n) = line_cells f (context_before f lines n) (f.read (line_at lines n)) ++ cells_before f lines n

-- the fault of the line at a place, if it has one, and whether the text ends there
abbrev pub fault_at : {C R F : Type 0} → Format C R F → List (List ℕ) → ℕ → Option F
fault_at f lines n = line_fault f (context_before f lines n) (cells_before f lines n) (f.read (line_at lines n))

abbrev pub ends_at : {C R F : Type 0} → Format C R F → List (List ℕ) → ℕ → Bool
ends_at f lines n = line_ends f (f.read (line_at lines n))

-- the lines before a place are right, and none of them ends the text
pub record AreRight {C R F : Type 0} (f : Format C R F) (lines : List (List ℕ)) (n : ℕ) : Type 0 where
  pub within : n ≤ length lines
  pub right : (k : ℕ) → k < n → fault_at f lines k ≡ None
  pub goes_on : (k : ℕ) → k < n → ends_at f lines k ≡ false

-- a text's image: the union of the records before the first end record, where all lines up to it are right
pub record IsImageOfText {C R F : Type 0} (f : Format C R F) (lines : List (List ℕ)) (image : List Run) : Type 0 where
  pub place : ℕ
  pub before : AreRight f lines place
  pub inside : place < length lines
  pub right : fault_at f lines place ≡ None
  pub ends : ends_at f lines place ≡ true
  pub image_is : IsImageOf (cells_before f lines place) image

-- the number of a line, from 1 on. It stops at 4,294,967,295.
abbrev pub line_number : ℕ → ℕ
line_number n = min n 4294967295

-- a text's fault is that of a line: the first line at fault, with no end record before it
pub record IsFaultOfLine {C R F : Type 0} (f : Format C R F) (lines : List (List ℕ)) (line : ℕ) (fault : F) : Type 0 where
  pub place : ℕ
  pub before : AreRight f lines place
  pub inside : place < length lines
  pub fault_is : fault_at f lines place ≡ Some fault
  pub line_is : line ≡ line_number (place + 1)

-- all lines of a text are right and none ends it: the fault is that the end is missing
pub record HasNoEnd {C R F : Type 0} (f : Format C R F) (lines : List (List ℕ)) (line : ℕ) : Type 0 where
  pub all : AreRight f lines (length lines)
  pub line_is : line ≡ line_number (length lines)

-- The lines of a text, read one at a time.

-- Taking a line that reads so is right, where c is known before it and `before` are the cells so far. It ends the text or not,
-- `known` is known after it, and the image gains its bytes.
pub record TakesLine {C R F : Type 0} (f : Format C R F) (reading : Result (Option R) F) (before : List Cell) (c known : C) (ends : Bool)
    (image : List Run) : Type 0 where
  pub right : line_fault f c before reading ≡ None
  pub ends_is : line_ends f reading ≡ ends
  pub known_is : known ≡ f.behind reading c
  pub image_is : IsImageOf (line_cells f c reading ++ before) image
  -- a line's own bytes don't clash
  pub own : AreConsistent (line_cells f c reading)
  -- a line that ends the text has no bytes
  pub end_cells : OnTrue ends (line_cells f c reading ≡ [])

-- why taking a line that reads so is refused: the fault of the line, or out of memory
abbrev pub IsLineFault : {C R F : Type 0} → Format C R F → Result (Option R) F → List Cell → C → LineFault F → Type 0
IsLineFault f reading before c (Refused fault) = line_fault f c before reading ≡ Some fault
IsLineFault f reading before c line.OutOfMemory = Unit {0}

-- why a text is refused: a fault of a line, a missing end, or out of memory
abbrev pub IsTextFault : {C R F : Type 0} → Format C R F → List (List ℕ) → TextFault F → Type 0
IsTextFault f lines (Line line fault) = IsFaultOfLine f lines line fault
IsTextFault f lines (NoEnd line) = HasNoEnd f lines line
IsTextFault f lines text.OutOfMemory = Unit {0}

-- the fault is out of memory, which says nothing about the text
abbrev pub IsMemoryFault : {F : Type 0} → TextFault F → Type 0
IsMemoryFault (Line line fault) = ⊥
IsMemoryFault (NoEnd line) = ⊥
IsMemoryFault text.OutOfMemory = Unit {0}
