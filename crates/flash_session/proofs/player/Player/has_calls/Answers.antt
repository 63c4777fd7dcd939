-- `Player::has_calls`: that it keeps its contract.
use Rattle.std.proofs.Common.{Bool, sym, subst}
use Rattle.flash_session.specs.Steps.{has_phase}
use Rattle.flash_session.proofs.StepLemmas.{any_item}
use Rattle.flash_session.proofs.player.Player.has_calls.Goals as goal

pub returns : goal.returns
returns c = subst (λ (b : Bool). has_phase c.args.self.now c.args.region c.args.phase b) (sym c.is_some.ensures)
    (any_item c.args.self.now c.args.region c.args.phase c.requires.there c.item.result c.item.ensures)
