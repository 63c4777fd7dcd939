-- `gather_erasures`: its contract, `Gathers`.
use Rattle.std.proofs.Common.{◌∙◌, sym}
use Rattle.outside_io.proofs.GatherLemmas.{gathers_as}
use Rattle.report_text.proofs.PlanLemmas.{erase_chip, erase_sectors}
use Rattle.report_text.proofs.plan.gather_erasures.Goals as goal

pub returns-then-is_chip : goal.returns-then-is_chip
returns-then-is_chip g c =
    gathers_as (erase_chip c.args.geometry.now c.args.base c.args.plan.now.made (sym c.is_chip.ensures ∙ c.if-is_chip.true)) c.add_all.ensures

pub returns : goal.returns
returns g c = gathers_as (erase_sectors c.args.geometry.now c.args.base c.args.plan.now.made (sym c.is_chip.ensures ∙ c.if-is_chip.false))
    c.gather_sectors.ensures
