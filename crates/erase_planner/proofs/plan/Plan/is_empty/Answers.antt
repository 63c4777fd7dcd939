-- `Plan::is_empty`: its contract, `IsEmptyPlan`.
use Rattle.std.proofs.Common.{ap, ◌∙◌, subst, List, Bool, ◌↔◌, IsTrue}
use Rattle.erase_planner.specs.Plans.{IsEmptyPlan, made_of}
use Rattle.erase_planner.specs.Marks.{PlanView}
use Rattle.erase_planner.proofs.plan.Plan.is_empty.Goals as goal

pub returns : goal.returns
returns c =
    let a = c.deref.ensures.value ∙ ap (λ (v : PlanView). v.made.sectors) c.self.view_is in
    let b = c.deref-2.ensures.value ∙ ap (λ (v : PlanView). v.made.pages) c.self.view_is in
    let chip = ap (λ (v : PlanView). v.made.chip) c.self.view_is in
    let goal = λ (x : Bool) (s : List Bool) (p : List Bool). IsTrue c.is_nothing.result ↔ IsEmptyPlan (made_of x s p 0) in
    subst (λ (x : Bool). goal x c.args.self.now.made.sectors c.args.self.now.made.pages) chip
    (subst (λ (s : List Bool). goal c.self.inside.chip s c.args.self.now.made.pages) a
    (subst (λ (p : List Bool). goal c.self.inside.chip c.deref.result.now p) b c.is_nothing.ensures))
