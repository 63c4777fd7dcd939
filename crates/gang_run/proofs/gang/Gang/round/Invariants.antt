-- `Gang::round`: what holds at each turn of its loop.
use Rattle.gang_run.specs.Gangs.{Rounding, GivesTurns, one_round}
use Rattle.gang_run.proofs.gang.Gang.round.Given as goal

abbrev pub invariant-loop-target : goal.invariant-loop-target
invariant-loop-target g l = record {
  rounding : Rounding g.B.Bench l.fn.self l.fn.benches l.self l.benches l.target l.goes_on;
  gives : GivesTurns g.B.Bench (one_round l.steps l.target) l.fn.self l.fn.benches l.self l.benches;
}
