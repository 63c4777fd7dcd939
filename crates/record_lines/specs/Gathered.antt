-- The runs of the lines of a text, in any order, and their union.
use Rattle.std.specs.Prelude.{◌≡◌, ◌+◌, ◌<◌, ◌≤◌, ℕ, true, false, List, [], length, take, drop, Option, Some, None}
use Rattle.std.specs.List.{All}
use Rattle.byte_map.specs.Image.{addresses, Run, holds, byte_of, byte_at, AreMaximal}
use Rattle.record_lines.specs.declared.gathered.Piece.{Piece}
use Rattle.record_lines.specs.Cells.{Cell, held}
use Rattle.record_lines.specs.Format.{Format, line_at, context_before, line_cells, line_fault, cells_before, ends_at}

-- the run that a piece of a store stands for
abbrev pub run_of : List ℕ → Piece → Run
run_of bytes piece = record { at = piece.at; bytes = take piece.len (drop piece.start bytes) }

abbrev pub IsInside : List ℕ → Piece → Type 0
IsInside bytes piece = piece.start + piece.len ≤ length bytes

-- an image has all bytes of a run
abbrev pub HasRun : List Run → Run → Type 0
HasRun image run = (a : ℕ) → holds run a ≡ true → byte_at image a ≡ Some (byte_of run a)

-- an image has the bytes of some runs and no other
pub record IsUnionOf (runs image : List Run) : Type 0 where
  pub maximal : AreMaximal 0 addresses image
  pub all : All (HasRun image) runs
  pub only : (a : ℕ) → All (λ run. holds run a ≡ false) runs → byte_at image a ≡ None

-- an image has the byte of a cell
abbrev pub HasCell : List Run → Cell → Type 0
HasCell image cell = byte_at image cell.at ≡ Some cell.byte

-- the cells of the line at a place, and the fault that the line has by itself, if any
abbrev pub cells_at : {C R F : Type 0} → Format C R F → List (List ℕ) → ℕ → List Cell
cells_at f lines k = line_cells f (context_before f lines k) (f.read (line_at lines k))

abbrev pub own_fault_at : {C R F : Type 0} → Format C R F → List (List ℕ) → ℕ → Option F
own_fault_at f lines k = line_fault f (context_before f lines k) [] (f.read (line_at lines k))

-- the lines before a place are right by themselves, none ends the text, and these runs have their bytes
pub record AreRunsBefore {C R F : Type 0} (f : Format C R F) (lines : List (List ℕ)) (n : ℕ) (runs : List Run) : Type 0 where
  pub within : n ≤ length lines
  pub right : (k : ℕ) → k < n → own_fault_at f lines k ≡ None
  pub goes_on : (k : ℕ) → k < n → ends_at f lines k ≡ false
  pub all : (image : List Run) → All (HasRun image) runs → (k : ℕ) → k < n → All (HasCell image) (cells_at f lines k)
  pub only : (a : ℕ) → held (cells_before f lines n) a ≡ None → All (λ run. holds run a ≡ false) runs

-- these runs have the bytes of the lines before the first end record, where those lines are right by themselves
pub record AreRunsOfText {C R F : Type 0} (f : Format C R F) (lines : List (List ℕ)) (runs : List Run) : Type 0 where
  pub place : ℕ
  pub before : AreRunsBefore f lines place runs
  pub inside : place < length lines
  pub right : own_fault_at f lines place ≡ None
  pub ends : ends_at f lines place ≡ true
  pub no_cells : cells_at f lines place ≡ []
