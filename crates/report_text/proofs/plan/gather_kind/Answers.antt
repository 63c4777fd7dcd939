-- `gather_kind`: its contract, `Gathers`.
use Rattle.std.proofs.Common.{◌≡◌, ◌∙◌, sym, refl, false, true}
use Rattle.erase_planner.specs.Plans.{IsEmptyPlan}
use Rattle.outside_io.proofs.GatherLemmas.{gathers_as}
use Rattle.report_text.proofs.PlanLemmas.{kind_none, kind_chip, kind_sectors}
use Rattle.report_text.proofs.plan.gather_kind.Goals as goal

pub returns-then-is_empty : goal.returns-then-is_empty
returns-then-is_empty g c = gathers_as (kind_none c.args.plan.now.made (c.if-is_empty.ensures.0 refl)) c.add_all.ensures

pub returns-then-is_chip : goal.returns-then-is_chip
returns-then-is_chip g c =
    let some = λ (none : IsEmptyPlan c.args.plan.now.made). let wrong : false ≡ true = c.if-is_empty.ensures.1 none in let no : ⊥ = cc in no in
    gathers_as (kind_chip c.args.plan.now.made some (sym c.is_chip.ensures ∙ c.if-is_chip.true)) c.add_all-then-is_chip.ensures

pub returns : goal.returns
returns g c =
    let some = λ (none : IsEmptyPlan c.args.plan.now.made). let wrong : false ≡ true = c.if-is_empty.ensures.1 none in let no : ⊥ = cc in no in
    gathers_as (kind_sectors c.args.plan.now.made some (sym c.is_chip.ensures ∙ c.if-is_chip.false)) c.add_all-2.ensures
