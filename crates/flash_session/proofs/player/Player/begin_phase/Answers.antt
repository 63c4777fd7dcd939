-- `Player::begin_phase`: its clauses `turns`, `host` and `one`, and what `turn_to` and `load` require.
use Rattle.std.proofs.Common.{refl, ap, arith}
use Rattle.std.proofs.lemmas.Grind.{common_steps}
use Rattle.flash_session.specs.declared.player.Player.{Player}
use Rattle.flash_session.proofs.MachineLemmas.{twins_kept}
use Rattle.flash_session.proofs.TakesLemmas.{begins_so, breaks_so}
use Rattle.flash_session.proofs.TurnMade.{begin_turn, reset_broken}
use Rattle.flash_session.proofs.player.Player.begin_phase.Goals as goal

pub returns-in-Ok-clause-turns : goal.returns-in-Ok-clause-turns
returns-in-Ok-clause-turns g c = λ goal_now.
    begin_turn g.B.Bench.tells goal_now c.args.self.now c.args.arena.now (g.B.Bench.state c.args.bench.now) c.requires.fit c.args.cursor c.requires.place
    c.args.region c.args.phase c.requires.step c.reset.new.self c.reset.new.arena c.turn_to.new.self c.turn_to.new.arena c.load.new.self c.load.new.arena
    (g.B.Bench.state c.reset.new.bench)
    c.reset.ensures.setup c.reset.ensures.map c.reset.ensures.others c.reset.ensures.bench (c.in-Ok.ensures.cause.on_ok refl) c.in-Ok.ensures.agrees
    c.in-Ok.ensures.ok c.turn_to.ensures
    c.load.ensures.same c.load.ensures.others c.load.ensures.ram c.load.ensures.leaves

pub returns-in-Err-clause-turns : goal.returns-in-Err-clause-turns
returns-in-Err-clause-turns g c = λ goal_now.
    reset_broken g.B.Bench.tells goal_now c.args.self.now c.args.arena.now (g.B.Bench.state c.args.bench.now) c.requires.fit c.args.cursor c.requires.place
    c.reset.new.self c.reset.new.arena (g.B.Bench.state c.reset.new.bench)
    c.in-Err.ensures.err c.reset.ensures.others c.reset.ensures.ram c.reset.ensures.bench c.in-Err.ensures.cause.later (c.in-Err.ensures.cause.on_fault refl)
    c.in-Err.ensures.err_cells

pub returns-in-Ok-clause-host : goal.returns-in-Ok-clause-host
returns-in-Ok-clause-host g c = λ goal_now. record { made = ap (λ (p : Player). p.made) c.turn_to.ensures.rest; next = c.requires.step }

pub returns-in-Err-clause-host : goal.returns-in-Err-clause-host
returns-in-Err-clause-host g c = λ goal_now. record {
  made = refl;
  next =
      record { calls = c.in-Err.ensures.err.0; ram = c.in-Err.ensures.err.1; stays = c.in-Err.ensures.err_cells };
}

pub returns-in-Ok-clause-one : goal.returns-in-Ok-clause-one
returns-in-Ok-clause-one g c = begins_so c.args.cursor c.args.region c.args.phase c.requires.kind

pub returns-in-Err-clause-one : goal.returns-in-Err-clause-one
returns-in-Err-clause-one g c = breaks_so c.args.cursor c.args.region c.args.phase c.requires.kind

pub load-requires : goal.load-requires
load-requires g c = grind (arith, common_steps)

pub turn_to-requires-clause-twins : goal.turn_to-requires-clause-twins
turn_to-requires-clause-twins g c =
    twins_kept c.args.self.now c.reset.new.self c.reset.ensures.setup c.reset.ensures.map c.requires.fit.scripted.twins
