-- `Gang::turns`: its clause `gives`, that its loop keeps its invariant, and what `turn` requires.
use Rattle.std.proofs.lemmas.Grind.{common_steps}
use Rattle.std.proofs.Common.{List, refl, subst, arith}
use Rattle.std.proofs.lemmas.List.{take_all}
use Rattle.gang_run.specs.declared.gang.Asked.{Asked}
use Rattle.gang_run.specs.Gangs.{GivesTurns}
use Rattle.gang_run.proofs.GangLemmas.{playing_here, playing_on, gives_on}
use Rattle.gang_run.proofs.gang.Gang.turns.Goals as goal

pub loop-next-init : goal.loop-next-init
loop-next-init g c = record {
  playing = playing_here g.B.Bench c.args.self.now c.args.benches.now (λ bench x told. g.met.B.Bench.as_told bench x told) c.requires.gang c.requires.count
      c.requires.ready;
  gives = (refl, refl);
}

pub loop-next-preserved : goal.loop-next-preserved
loop-next-preserved g c = record {
  playing = playing_on g.B.Bench c.args.self.now c.loop-next.self c.turn.new.self c.args.benches.now c.loop-next.benches c.turn.new.benches _
      (λ bench x told. g.met.B.Bench.as_told bench x told) c.loop-next.invariant.playing c.turn.ensures.turn c.turn.ensures.gang c.turn.ensures.ready;
  gives = gives_on g.B.Bench c.args.asked.now c.loop-next.next-index (record { target = 0; steps = 0 }) c.args.self.now c.loop-next.self c.turn.new.self
      c.args.benches.now c.loop-next.benches c.turn.new.benches (omega arith) c.loop-next.invariant.gives
      (record { turn = c.turn.ensures.turn; takes = c.turn.ensures.one });
}

pub returns-clause-gives : goal.returns-clause-gives
returns-clause-gives g c = subst (λ (l : List Asked). GivesTurns g.B.Bench l c.args.self.now c.args.benches.now c.loop-next.self c.loop-next.benches)
    (take_all c.loop-next.next-index c.args.asked.now (omega arith)) c.loop-next.invariant.gives

pub turn-requires-clause-target : goal.turn-requires-clause-target
turn-requires-clause-target g c = grind (arith, common_steps)
