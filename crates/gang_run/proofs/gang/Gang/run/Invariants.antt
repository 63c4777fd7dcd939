-- `Gang::run`: what holds at each turn of its loop, and what decreases at each turn.
use Rattle.gang_run.specs.Gangs.{gang_togo, GivesRounds, Playing}
use Rattle.gang_run.proofs.gang.Gang.run.Given as goal

abbrev pub invariant-rounds : goal.invariant-rounds
invariant-rounds g l = record {
  playing : Playing g.B.Bench l.fn.self l.fn.benches l.self l.benches;
  gives : GivesRounds g.B.Bench l.steps l.fn.self l.fn.benches l.self l.benches;
}

abbrev pub decreases-rounds : goal.decreases-rounds
decreases-rounds g l = gang_togo l.self
