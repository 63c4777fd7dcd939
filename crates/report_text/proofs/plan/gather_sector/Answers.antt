-- `gather_sector`: its contract, `Gathers`.
use Rattle.std.proofs.Common.{◌∙◌, sym}
use Rattle.std.specs.Prelude.{codes}
use Rattle.outside_io.proofs.GatherLemmas.{gathers_nothing, gathers_as}
use Rattle.report_text.proofs.PlanLemmas.{not_in, is_in}
use Rattle.report_text.proofs.plan.gather_sector.Goals as goal

pub returns-then-not-sector_in : goal.returns-then-not-sector_in
returns-then-not-sector_in g c =
    gathers_as (not_in (codes "erase") c.args.base c.args.geometry.now.sectors c.args.plan.now.made.sectors c.args.index
    (sym c.sector_in.ensures ∙ c.if-not-sector_in.true))
    (gathers_nothing _ _ _ _)

pub returns : goal.returns
returns g c =
    gathers_as (is_in (codes "erase") c.args.base c.args.geometry.now.sectors c.args.plan.now.made.sectors c.args.index c.sector-place.result.0
    c.sector-place.result.1 (sym c.sector_in.ensures ∙ c.if-not-sector_in.false) c.sector-place.ensures.range)
    c.gather_action.ensures
