-- `Player::exchange`: what `restart` requires.
use Rattle.std.proofs.Common.{arith}
use Rattle.std.proofs.lemmas.Grind.{common_steps}
use Rattle.flash_session.proofs.player.Player.exchange.Goals as goal

pub restart-requires : goal.restart-requires
restart-requires c = grind (arith, common_steps)

pub returns : goal.returns
returns c = grind (arith, common_steps)
