-- `Gang::open`: what holds at each turn of its loop.
use Rattle.gang_run.specs.Opens.{Opening}
use Rattle.gang_run.proofs.gang.Gang.open.Given as goal

abbrev pub invariant-loop-index : goal.invariant-loop-index
invariant-loop-index g l = Opening g.B.Bench l.fn.benches l.benches l.slots.items l.sizes.items l.index
