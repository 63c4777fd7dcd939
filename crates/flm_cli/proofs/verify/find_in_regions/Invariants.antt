-- `find_in_regions`: what holds at each turn of its loop.
use Rattle.flm_cli.proofs.PlaceLemmas.{RegionsSoFar}
use Rattle.flm_cli.proofs.verify.find_in_regions.Given as goal

abbrev pub invariant-loop-region : goal.invariant-loop-region
invariant-loop-region g l = RegionsSoFar g.B.Bench.tells (g.B.Bench.state l.initial.bench) (g.B.Bench.state l.bench) l.regions l.image l.region-index l.start
