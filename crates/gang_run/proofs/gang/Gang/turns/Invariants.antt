-- `Gang::turns`: what holds at each turn of its loop.
use Rattle.std.proofs.Common.{take}
use Rattle.gang_run.specs.Gangs.{GivesTurns, Playing}
use Rattle.gang_run.proofs.gang.Gang.turns.Given as goal

abbrev pub invariant-loop-next : goal.invariant-loop-next
invariant-loop-next g l = record {
  playing : Playing g.B.Bench l.fn.self l.fn.benches l.self l.benches;
  gives : GivesTurns g.B.Bench (take l.next-index l.asked) l.fn.self l.fn.benches l.self l.benches;
}
