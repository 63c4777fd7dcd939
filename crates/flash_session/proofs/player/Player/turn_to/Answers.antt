-- `Player::turn_to`: its contract, `TurnsTo`.
use Rattle.std.proofs.Common.{◌≡◌, refl, rules, arith}
use Rattle.std.proofs.lemmas.Grind.{common_steps}
use Rattle.flash_session.specs.Regions.{other_than}
use Rattle.flash_session.proofs.MachineLemmas.{turned_to}
use Rattle.flash_session.proofs.player.Player.turn_to.Goals as goal

pub returns-then-ne : goal.returns-then-ne
returns-then-ne c =
    let other : other_than c.args.self.now.moved ≡ c.args.region = search rules in
    turned_to c.args.self.now.other c.args.self.now c.args.arena.now c.exchange.new.self c.exchange.new.arena c.args.region refl c.exchange.ensures
    c.requires.twins other

pub returns-else-ne : goal.returns-else-ne
returns-else-ne c = grind (arith, common_steps)

pub exchange-requires : goal.exchange-requires
exchange-requires c = grind (arith, common_steps)
