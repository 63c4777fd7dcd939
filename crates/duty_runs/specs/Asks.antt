-- What a run of a call has to meet: where it may open operations, and the marks of its cells before and after it.
use Rattle.std.specs.Prelude.{◌≡◌, ℕ, List, [], replicate, slice_index, Option, Some, None}
use Rattle.shadow_step.specs.declared.marks.Mark.TheVariants.{Page}
use Rattle.shadow_step.specs.Marks.{Pages}
use Rattle.duty_proofs.specs.declared.cells.CellMark.{CellMark}
use Rattle.duty_proofs.specs.declared.cells.CellMark.TheVariants.{Blank, Holds}
use Rattle.duty_proofs.specs.Decided.{any_cell, named_cells}
use Rattle.duty_runs.specs.declared.ask.Task.{Task}
use Rattle.duty_runs.specs.declared.ask.Task.TheVariants.{Quiet, Erases, Programs, Compares}

-- where a call may open operations: in the cells that it erases or programs, or nowhere
abbrev pub place_in : Task → ℕ → ℕ → Option (ℕ × ℕ)
place_in Quiet from many = None
place_in Erases from many = Some (from, many)
place_in Programs from many = Some (from, many)
place_in Compares from many = None

abbrev pub before_in : Task → ℕ → List CellMark
before_in Quiet many = []
before_in Erases many = replicate many any_cell
before_in Programs many = replicate many Blank
before_in Compares many = named_cells many

-- how many cells have marks after a call, and which mark each of them has
abbrev pub count_in : Task → ℕ → ℕ
count_in Quiet many = 0
count_in Erases many = many
count_in Programs many = many
count_in Compares many = 0

abbrev pub after_in : Task → ℕ → CellMark
after_in Quiet j = any_cell
after_in Erases j = Blank
after_in Programs j = Holds (Page 1 j)
after_in Compares j = any_cell

-- the page of the run at hand, taken for both runs
abbrev pub own_page : List ℕ → Pages
own_page bytes = record { here = bytes; there = bytes }

-- a cell has the value that its mark before the call gives
abbrev pub FitsCell : Task → List ℕ → ℕ → ℕ → Type 0
FitsCell Quiet bytes k v = Unit {0}
FitsCell Erases bytes k v = Unit {0}
FitsCell Programs bytes k v = v ≡ 0xFF
FitsCell Compares bytes k v = slice_index bytes k ≡ v
