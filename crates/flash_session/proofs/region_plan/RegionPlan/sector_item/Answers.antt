-- `RegionPlan::sector_item`: its contract, `IsItem`.
use Rattle.std.proofs.Common.{arith}
use Rattle.flash_session.proofs.ItemLemmas.{sector_next}
use Rattle.flash_session.proofs.region_plan.RegionPlan.sector_item.Goals as goal

pub returns-in-Some : goal.returns-in-Some
returns-in-Some c = λ s.
    sector_next s c.args.self.now c.args.index c.in-Some.index c.sector-at.result.0 c.sector-at.result.1 c.in-Some.ensures.0 c.in-Some.ensures.1
    (λ bytes. c.in-Some.ensures.2 s bytes) c.sector-at.ensures.range
    (omega (arith, c.in-Some.ensures.0, c.sectors-lawful.ensures.count, c.sectors-lawful.ensures.limit))
