-- `unite`: what holds at each turn of its loop.
use Rattle.image_set.specs.Union.{IsUnited}
use Rattle.image_set.proofs.union.unite.Given as goal

abbrev pub invariant-loop-index : goal.invariant-loop-index
invariant-loop-index l = IsUnited l.image l.other l.index l.old l.union
