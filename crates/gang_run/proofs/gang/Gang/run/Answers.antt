-- `Gang::run`: its clauses `gives`, `since`, `kept` and `count`, that its loop keeps its invariant, and that it ends.
use Rattle.std.proofs.lemmas.Grind.{common_steps}
use Rattle.std.proofs.Common.{refl, arith}
use Rattle.gang_run.proofs.GangLemmas.{playing_here, round_more}
use Rattle.gang_run.proofs.gang.Gang.run.Goals as goal

pub rounds-init : goal.rounds-init
rounds-init g c = record {
  playing = playing_here g.B.Bench c.args.self.now c.args.benches.now (λ bench x told. g.met.B.Bench.as_told bench x told) c.requires.gang c.requires.count
      c.requires.ready;
  gives = (0, (refl, refl));
}

pub rounds-preserved : goal.rounds-preserved
rounds-preserved g c = record {
  playing = c.round.ensures.plays c.args.self.now c.args.benches.now c.rounds.invariant.playing;
  gives = round_more g.B.Bench c.args.steps c.args.self.now c.rounds.self c.round.new.self c.args.benches.now c.rounds.benches c.round.new.benches
      c.rounds.invariant.playing.count c.rounds.invariant.gives c.round.ensures.gives;
}

pub returns-then-not-round-clause-gives : goal.returns-then-not-round-clause-gives
returns-then-not-round-clause-gives g c = round_more g.B.Bench c.args.steps c.args.self.now c.rounds.self c.round.new.self c.args.benches.now c.rounds.benches
    c.round.new.benches c.rounds.invariant.playing.count c.rounds.invariant.gives c.round.ensures.gives

pub returns-then-not-round-clause-since : goal.returns-then-not-round-clause-since
returns-then-not-round-clause-since g c = (c.round.ensures.plays c.args.self.now c.args.benches.now c.rounds.invariant.playing).since

pub returns-then-not-round-clause-kept : goal.returns-then-not-round-clause-kept
returns-then-not-round-clause-kept g c = (c.round.ensures.plays c.args.self.now c.args.benches.now c.rounds.invariant.playing).kept

pub returns-then-not-round-clause-count : goal.returns-then-not-round-clause-count
returns-then-not-round-clause-count g c = (c.round.ensures.plays c.args.self.now c.args.benches.now c.rounds.invariant.playing).count

pub rounds-smaller : goal.rounds-smaller
rounds-smaller g c = grind (arith, common_steps)
