-- `Player::restart`: its contract, `Restarts`, and what `turn_to` requires.
use Rattle.flash_session.proofs.MachineLemmas.{restarts_by, twins_kept}
use Rattle.flash_session.proofs.player.Player.restart.Goals as goal

pub turn_to-requires-clause-twins : goal.turn_to-requires-clause-twins
turn_to-requires-clause-twins c = twins_kept c.args.self.now c.restart.new.self c.restart.ensures.setup c.restart.ensures.map c.requires.twins

pub returns : goal.returns
returns c = restarts_by c.args.self.now c.args.arena.now c.restart.new.self c.restart.new.arena c.turn_to.new.self c.turn_to.new.arena c.restart.ensures.setup
    c.restart.ensures.map c.restart.ensures.world c.turn_to.ensures
