-- `copy`: what holds at each turn of its loop, and what decreases at each turn.
use Rattle.std.proofs.Common.{◌-◌}
use Rattle.job_parts.proofs.GiveLemmas.{CopiedSoFar}
use Rattle.job_parts.proofs.copy.copy.Given as goal

abbrev pub invariant-loop-at : goal.invariant-loop-at
invariant-loop-at g l = CopiedSoFar g.B.Bench.tells (g.B.Bench.state l.fn.bench) (g.B.Bench.state l.bench) g.O.Sink.tells (g.O.Sink.state l.fn.out)
    (g.O.Sink.state l.out) l.from l.len l.at l.window

abbrev pub decreases-loop-at : goal.decreases-loop-at
decreases-loop-at g l = l.len - l.at
