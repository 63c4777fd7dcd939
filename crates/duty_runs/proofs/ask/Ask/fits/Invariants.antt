-- `Ask::fits`: the cells that are as their marks say so far.
use Rattle.std.proofs.Common.{◌<◌, ◌+◌, ℕ, slice_index}
use Rattle.duty_runs.specs.Asks.{FitsCell}
use Rattle.duty_runs.proofs.ask.Ask.fits.Given as goal

abbrev pub invariant-loop-index : goal.invariant-loop-index
invariant-loop-index l = (k : ℕ) → k < l.index → FitsCell l.self.task l.self.bytes.now k (slice_index l.cells (l.self.from + k))
