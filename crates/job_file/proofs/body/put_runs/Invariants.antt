-- `put_runs`: what holds at each turn of its loop.
use Rattle.job_file.proofs.BodyLemmas.{RunsPut}
use Rattle.job_file.proofs.body.put_runs.Given as goal

abbrev pub invariant-loop-index : goal.invariant-loop-index
invariant-loop-index g l = RunsPut g.B.Bench.tells (g.B.Bench.state l.fn.bench) (g.B.Bench.state l.bench) l.from l.at l.image l.index
