-- `named_cells`: the cells that are named so far.
use Rattle.std.proofs.Common.{◌≡◌}
use Rattle.duty_proofs.specs.Decided.{named_cells}
use Rattle.duty_runs.proofs.ask.named_cells.Given as goal

abbrev pub invariant-loop-at : goal.invariant-loop-at
invariant-loop-at l = l.cells.items ≡ named_cells l.at
