-- `read_runs`: what holds at each turn of its loop.
use Rattle.job_file.proofs.ImageLemmas.{RunsSoFar}
use Rattle.job_file.proofs.image.read_runs.Given as goal

abbrev pub invariant-loop : goal.invariant-loop
invariant-loop g l = RunsSoFar g.B.Bench.tells (g.B.Bench.state l.fn.bench) (g.B.Bench.state l.bench) l.whole l.regions l.from l.count l.start l.at l.image
    l.window l.counter
