-- `put_targets`: what holds at each turn of its loop.
use Rattle.gang_commands.proofs.OutcomeLemmas.{outcomes}
use Rattle.gang_commands.proofs.LineLemmas.{PutsUpto}
use Rattle.gang_commands.proofs.lines.put_targets.Given as goal

abbrev pub invariant-loop-target : goal.invariant-loop-target
invariant-loop-target g l = PutsUpto g.O.Sink.tells (g.O.Sink.state l.initial.out) (g.O.Sink.state l.out) (outcomes l.gang) l.target l.status
