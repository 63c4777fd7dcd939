-- `check_ranges`: what holds at each turn of its loop.
use Rattle.image_set.proofs.RangeLemmas.{LieBefore}
use Rattle.image_set.proofs.ranges.check_ranges.Given as goal

abbrev pub invariant-loop-index : goal.invariant-loop-index
invariant-loop-index l = LieBefore l.map l.ranges l.index
