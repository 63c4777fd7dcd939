-- `Player::begin`: its clause `step`.
use Rattle.flash_session.proofs.StepLemmas.{step_begins, step_behind}
use Rattle.flash_session.proofs.player.Player.begin.Goals as goal

pub returns-in-Some-clause-step : goal.returns-in-Some-clause-step
returns-in-Some-clause-step c = step_begins c.args.self.now c.args.region c.args.phase c.in-Some.phase c.requires.there c.in-Some.ensures

pub returns-in-None-clause-step : goal.returns-in-None-clause-step
returns-in-None-clause-step c = step_behind c.args.self.now c.args.region c.args.phase c.behind.result c.in-None.ensures c.behind.ensures.step
