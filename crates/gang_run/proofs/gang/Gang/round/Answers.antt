-- `Gang::round`: its clauses `nearer` and `gives`, and that its loop keeps its invariant.
use Rattle.std.proofs.lemmas.Grind.{common_steps}
use Rattle.std.proofs.Common.{refl, arith}
use Rattle.gang_run.proofs.GangLemmas.{round_here, round_on, round_then}
use Rattle.gang_run.proofs.gang.Gang.round.Goals as goal

pub loop-target-init : goal.loop-target-init
loop-target-init g c = record {
  rounding = round_here g.B.Bench c.args.self.now c.args.benches.now c.requires.gang c.requires.count c.requires.ready;
  gives = (refl, refl);
}

pub loop-target-preserved : goal.loop-target-preserved
loop-target-preserved g c = record {
  rounding = round_on g.B.Bench c.args.self.now c.loop-target.self c.turn.new.self c.args.benches.now c.loop-target.benches c.turn.new.benches
      c.loop-target.target c.loop-target.goes_on c.still-goes_on.result c.turn.result (λ bench x told. g.met.B.Bench.as_told bench x told)
      c.loop-target.invariant.rounding
      c.turn.ensures.turn c.turn.ensures.gang c.turn.ensures.ready c.turn.ensures.result c.still-goes_on.ensures.more c.still-goes_on.ensures.ended;
  gives = round_then g.B.Bench c.args.steps c.loop-target.target c.args.self.now c.loop-target.self c.turn.new.self c.args.benches.now c.loop-target.benches
      c.turn.new.benches c.loop-target.invariant.gives (record { turn = c.turn.ensures.turn; takes = c.turn.ensures.one });
}

pub returns-clause-nearer : goal.returns-clause-nearer
returns-clause-nearer g c = grind (arith, common_steps)

pub returns-clause-gives : goal.returns-clause-gives
returns-clause-gives g c = grind (arith, common_steps)
