-- `first_difference`: what holds at each turn of its loop, and what decreases at each turn.
use Rattle.std.proofs.Common.{◌-◌, length}
use Rattle.readback.proofs.ReadbackLemmas.{SoFar}
use Rattle.readback.proofs.compare.first_difference.Given as goal

abbrev pub invariant-loop-done : goal.invariant-loop-done
invariant-loop-done g l = SoFar g.B.Bench.tells (g.B.Bench.state l.initial.bench) (g.B.Bench.state l.bench) l.at l.want l.done

abbrev pub decreases-loop-done : goal.decreases-loop-done
decreases-loop-done g l = length l.want - l.done
