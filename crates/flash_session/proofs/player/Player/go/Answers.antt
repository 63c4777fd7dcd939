-- `Player::go`: its clause `follows`, and that its loop keeps its invariant.
use Rattle.std.proofs.Common.{sym, subst}
use Rattle.flash_session.specs.declared.cursor.Place.TheVariants as place
use Rattle.flash_session.specs.Targets.{goal_for}
use Rattle.flash_session.specs.Whole.{IsPlaying}
use Rattle.flash_session.proofs.WholeLemmas.{goes_where, played_here, played_on, follows_stop}
use Rattle.flash_session.proofs.player.Player.go.Goals as goal

pub turns-init : goal.turns-init
turns-init g c = record {
  played = played_here g.B.Bench.tells (goal_for c.args.job.now c.args.self.now (g.B.Bench.state c.args.bench.now).file) c.args.self.now c.args.arena.now
      (g.B.Bench.state c.args.bench.now) (λ told x. g.met.B.Bench.as_told c.args.bench.now x told) c.requires.fit
      (subst IsPlaying (sym c.requires.first) tt);
}

pub turns-preserved : goal.turns-preserved
turns-preserved g c = record {
  played = played_on g.B.Bench.tells c.args.job.now c.args.self.now c.turns.self c.play.new.self c.args.arena.now c.turns.arena c.play.new.arena
      (g.B.Bench.state c.args.bench.now) (g.B.Bench.state c.turns.bench) (g.B.Bench.state c.play.new.bench)
      c.turns.invariant.played (goes_where c.turns.self.place c.stop.result c.in-None.is c.turns.invariant.played.before c.stop.ensures) c.play.ensures.turns;
}

pub returns-in-Some-clause-follows : goal.returns-in-Some-clause-follows
returns-in-Some-clause-follows g c = λ told.
    follows_stop g.B.Bench.tells told (goal_for c.args.job.now c.args.self.now (g.B.Bench.state c.args.bench.now).file) c.args.self.now c.turns.self
    c.args.arena.now c.turns.arena (g.B.Bench.state c.args.bench.now) (g.B.Bench.state c.turns.bench) c.requires.first c.requires.made
    c.turns.invariant.played c.in-Some.end c.stop.result c.stop.ensures c.in-Some.is
