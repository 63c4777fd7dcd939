-- `fill`: what holds at each turn of its loop, and what decreases at each turn.
use Rattle.std.proofs.Common.{length, ◌-◌}
use Rattle.job_file.proofs.PieceLemmas.{SoFar}
use Rattle.job_file.proofs.pieces.fill.Given as goal

abbrev pub invariant-loop-at : goal.invariant-loop-at
invariant-loop-at g l = SoFar g.B.Bench.tells (g.B.Bench.state l.fn.bench) (g.B.Bench.state l.bench) l.from l.at l.out

abbrev pub decreases-loop-at : goal.decreases-loop-at
decreases-loop-at g l = length l.initial.out - l.at
