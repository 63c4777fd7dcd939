-- `gather_page`: its contract, `Gathers`.
use Rattle.std.proofs.Common.{◌∙◌, sym}
use Rattle.std.specs.Prelude.{codes}
use Rattle.outside_io.proofs.GatherLemmas.{gathers_nothing, gathers_as}
use Rattle.report_text.proofs.PlanLemmas.{not_in, is_in}
use Rattle.report_text.proofs.plan.gather_page.Goals as goal

pub returns-then-not-page_in : goal.returns-then-not-page_in
returns-then-not-page_in g c =
    gathers_as (not_in (codes "program") c.args.base c.args.geometry.now.pages c.args.plan.now.made.pages c.args.index
    (sym c.page_in.ensures ∙ c.if-not-page_in.true))
    (gathers_nothing _ _ _ _)

pub returns : goal.returns
returns g c =
    gathers_as (is_in (codes "program") c.args.base c.args.geometry.now.pages c.args.plan.now.made.pages c.args.index c.page-place.result.0
    c.page-place.result.1 (sym c.page_in.ensures ∙ c.if-not-page_in.false) c.page-place.ensures.range)
    c.gather_action.ensures
