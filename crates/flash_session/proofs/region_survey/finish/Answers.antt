-- `finish`: its clause `plan`.
use Rattle.std.proofs.Common.{Bool, subst}
use Rattle.erase_planner.specs.Plans.{IsLeastPlan}
use Rattle.flash_session.proofs.region_survey.finish.Goals as goal

pub returns-clause-plan : goal.returns-clause-plan
returns-clause-plan c = λ o w fed.
    let a = c.args.aim.now.algorithm.now in
    subst (λ (h : Bool). IsLeastPlan c.args.aim.now.geometry.now c.args.aim.now.weights.now h a.device.empty o w c.plan_finish.new.plan.made)
    c.is_some-has_chip.ensures
    (c.plan_finish.ensures.least a.device.empty o w fed)
