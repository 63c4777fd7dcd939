-- `put_blank`: what holds at each turn of its loop.
use Rattle.std.proofs.Common.{◌≡◌, ◌++◌}
use Rattle.std.specs.Prelude.{replicate}
use Rattle.demo_job.proofs.made.put_blank.Given as goal

abbrev pub invariant-loop-cell : goal.invariant-loop-cell
invariant-loop-cell l = l.cells.items ≡ l.initial.cells.items ++ replicate l._cell 255
