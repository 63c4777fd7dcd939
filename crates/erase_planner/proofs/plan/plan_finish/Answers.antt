-- `plan_finish`: that it keeps its contract.
use Rattle.std.proofs.lemmas.Grind.{common_steps}
use Rattle.std.proofs.Common.{◌≡◌, List, sym, ap, subst, ◌∙◌, arith}
use Rattle.erase_planner.specs.declared.marks.Mark.{Mark}
use Rattle.erase_planner.specs.Plans.{made_of}
use Rattle.erase_planner.specs.Marks.{AreMarks, PlanView}
use Rattle.erase_planner.proofs.LawLemmas.{least_plan}
use Rattle.erase_planner.proofs.plan.plan_finish.Goals as goal

pub returns-clause-least : goal.returns-clause-least
returns-clause-least c empty o w f =
    let same : c.args.plan.now.marks ≡ c.deref.result.now = sym (ap (λ (v : PlanView). v.marks) c.plan.view_is) ∙ sym c.deref.ensures.value in
    let lo = f.old_long ∙ c.requires.whole in
    let lw = f.want_long ∙ c.requires.whole in
    let marked = subst (λ (ms : List Mark). AreMarks c.args.geometry.now empty o w ms) same f.marked in
    least_plan c.args.geometry.now c.pages-lawful.ensures.lawful c.args.weights.now c.args.has_chip empty o w lo lw
    (made_of c.choose-chip.result.0 c.choose-chip.new.sectors.items c.choose-chip.new.pages.items c.choose-chip.result.1)
    (c.choose-chip.ensures.least empty o w lo lw marked)

pub choose-chip-requires-clause-long : goal.choose-chip-requires-clause-long
choose-chip-requires-clause-long c = grind (arith, common_steps)

pub returns-clause-spare : goal.returns-clause-spare
returns-clause-spare c = grind (arith, common_steps)
