-- `RegionPlan::erase_item`: its contract, `IsItem`.
use Rattle.std.proofs.Common.{◌∙◌, sym, arith}
use Rattle.std.proofs.lemmas.Grind.{common_steps}
use Rattle.flash_session.proofs.ItemLemmas.{by_sectors}
use Rattle.flash_session.proofs.region_plan.RegionPlan.erase_item.Goals as goal

pub returns-then-not-is_chip : goal.returns-then-not-is_chip
returns-then-not-is_chip c = λ s region_work. by_sectors s c.args.self.now c.args.index c.sector_item.result (sym c.is_chip.ensures ∙ c.if-not-is_chip.true)
    (c.sector_item.ensures s)

pub returns-then-index-eq0 : goal.returns-then-index-eq0
returns-then-index-eq0 c = grind (arith, common_steps)

pub returns-else-index-eq0 : goal.returns-else-index-eq0
returns-else-index-eq0 c = grind (arith, common_steps)
