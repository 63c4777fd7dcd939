-- `read_hash`: what holds at each turn of its loop, and what decreases at each turn.
use Rattle.std.proofs.Common.{◌-◌}
use Rattle.job_file.proofs.HashLemmas.{HashedSoFar}
use Rattle.job_file.proofs.damage.read_hash.Given as goal

abbrev pub invariant-loop-at : goal.invariant-loop-at
invariant-loop-at g l = HashedSoFar g.B.Bench.tells (g.B.Bench.state l.fn.bench) (g.B.Bench.state l.bench) l.count l.at l.window l.hasher

abbrev pub decreases-loop-at : goal.decreases-loop-at
decreases-loop-at g l = l.count - l.at
