-- `Player::second_region`: its clause `step`.
use Rattle.flash_session.proofs.StepLemmas.{second_begins, second_ends}
use Rattle.flash_session.proofs.player.Player.second_region.Goals as goal

pub returns-in-Some-clause-step : goal.returns-in-Some-clause-step
returns-in-Some-clause-step c = second_begins c.args.self.now c.in-Some.phase c.requires.there c.in-Some.ensures

pub returns-in-None-clause-step : goal.returns-in-None-clause-step
returns-in-None-clause-step c = second_ends c.args.self.now c.requires.there c.in-None.ensures
