-- `lay_run`: what holds at each turn of its loop, and what decreases at each turn.
use Rattle.std.proofs.Common.{◌-◌}
use Rattle.job_file.proofs.ImageLemmas.{LaidSoFar}
use Rattle.job_file.proofs.image.lay_run.Given as goal

abbrev pub invariant-loop-at : goal.invariant-loop-at
invariant-loop-at g l = LaidSoFar g.B.Bench.tells (g.B.Bench.state l.fn.bench) (g.B.Bench.state l.bench) l.from l.place l.len l.at l.fn.image l.image l.window

abbrev pub decreases-loop-at : goal.decreases-loop-at
decreases-loop-at g l = l.count - l.at
