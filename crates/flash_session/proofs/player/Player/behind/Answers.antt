-- `Player::behind`: its clause `step`.
use Rattle.std.proofs.Common.{sym, subst, ◌∙◌}
use Rattle.flash_session.specs.Regions.{RegionIndex}
use Rattle.flash_session.specs.Steps.{IsStepBehind}
use Rattle.flash_session.specs.Targets.{has_second}
use Rattle.flash_session.proofs.StepLemmas.{behind_last, not_last}
use Rattle.flash_session.proofs.player.Player.behind.Goals as goal

pub returns-then-is_last-clause-step : goal.returns-then-is_last-clause-step
returns-then-is_last-clause-step c = behind_last c.args.self.now c.args.region (sym c.is_last.ensures ∙ c.if-is_last.true)

pub second_region-requires-clause-there : goal.second_region-requires-clause-there
second_region-requires-clause-there c = (not_last (has_second c.args.self.now) c.args.region (sym c.is_last.ensures ∙ c.if-is_last.false)).1

pub returns-clause-step : goal.returns-clause-step
returns-clause-step c = subst (λ (r : RegionIndex). IsStepBehind c.args.self.now r c.second_region.result)
    (sym (not_last (has_second c.args.self.now) c.args.region (sym c.is_last.ensures ∙ c.if-is_last.false)).0) c.second_region.ensures.step
