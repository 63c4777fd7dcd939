-- `find_in_region`: what holds at each turn of its loop.
use Rattle.flm_cli.proofs.DifferenceLemmas.{RunsSoFar}
use Rattle.flm_cli.proofs.verify.find_in_region.Given as goal

abbrev pub invariant-loop-index : goal.invariant-loop-index
invariant-loop-index g l =
    RunsSoFar g.B.Bench.tells (g.B.Bench.state l.initial.bench) (g.B.Bench.state l.bench) l.start l.region.base l.region.size l.image l.index
