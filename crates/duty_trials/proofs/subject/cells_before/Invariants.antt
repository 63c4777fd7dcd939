-- `cells_before`: what holds at each turn of its loop.
use Rattle.std.proofs.Common.{◌≡◌}
use Rattle.flash_layout.specs.Areas.{areas_of}
use Rattle.algo_calls.specs.Duties.{cells_before}
use Rattle.duty_trials.proofs.subject.cells_before.Given as goal

abbrev pub invariant-loop-index : goal.invariant-loop-index
invariant-loop-index l = l.cells ≡ cells_before (areas_of l.regions) l.index
