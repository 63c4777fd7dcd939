-- `put_body`: what holds at each turn of its loop, and what decreases at each turn.
use Rattle.std.proofs.Common.{◌-◌}
use Rattle.job_text.specs.Parts.{front_of}
use Rattle.job_file.proofs.PutLemmas.{PutSoFar}
use Rattle.job_file.proofs.body.put_body.Given as goal

abbrev pub invariant-loop-at : goal.invariant-loop-at
invariant-loop-at g l = PutSoFar g.B.Bench.tells (g.B.Bench.state l.fn.bench) (g.B.Bench.state l.bench) (front_of l.parts) l.window l.hasher l.at

abbrev pub decreases-loop-at : goal.decreases-loop-at
decreases-loop-at g l = l.count - l.at
