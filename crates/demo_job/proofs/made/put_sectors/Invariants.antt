-- `put_sectors`: what holds at each turn of its loop.
use Rattle.std.proofs.Common.{◌≡◌, ◌++◌}
use Rattle.demo_job.specs.Made.{sectors, after_sectors}
use Rattle.demo_job.proofs.made.put_sectors.Given as goal

abbrev pub invariant-loop-sector : goal.invariant-loop-sector
invariant-loop-sector l = record {
  bytes : l.cells.items ≡ l.initial.cells.items ++ sectors l._sector l.initial.draws.state;
  state : l.draws.state ≡ after_sectors l._sector l.initial.draws.state;
}
