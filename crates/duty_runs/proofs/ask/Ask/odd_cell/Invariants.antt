-- `Ask::odd_cell`: the cells so far that have the marks that they need.
use Rattle.std.proofs.Common.{◌≡◌, ◌<◌, ℕ, slice_index_or}
use Rattle.shadow_step.specs.declared.marks.Mark.TheVariants.{Any}
use Rattle.duty_proofs.specs.declared.cells.CellMark.TheVariants.{Holds}
use Rattle.duty_runs.specs.Asks.{after_in}
use Rattle.duty_runs.proofs.ask.Ask.odd_cell.Given as goal

abbrev pub invariant-loop-index : goal.invariant-loop-index
invariant-loop-index l = (k : ℕ) → k < l.index → slice_index_or l.marks k (Holds Any) ≡ after_in l.self.task k
