-- `RegionPlan::page_item`: its contract, `IsItem`.
use Rattle.std.proofs.Common.{arith}
use Rattle.std.proofs.lemmas.Grind.{common_steps}
use Rattle.flash_session.proofs.ItemLemmas.{page_next}
use Rattle.flash_session.proofs.region_plan.RegionPlan.page_item.Goals as goal

pub returns-in-Some : goal.returns-in-Some
returns-in-Some c = λ s region_work entry.
    page_next s c.args.self.now c.args.verifies c.args.index c.in-Some.index c.page-at.result.0 c.page-at.result.1 c.call_for.result c.call_for.ensures
    region_work
    entry c.pages-lawful.ensures.lawful
    c.in-Some.ensures.0 c.in-Some.ensures.1 (λ bytes. c.in-Some.ensures.2 c.args.verifies s bytes) c.page-at.ensures.range
    (omega (arith, c.in-Some.ensures.0, c.pages-lawful.ensures.count, c.pages-lawful.ensures.limit))

pub returns-in-None : goal.returns-in-None
returns-in-None c = λ s region_work entry bytes. c.in-None.ensures c.args.verifies s bytes

pub overflow_add-self : goal.overflow_add-self
overflow_add-self c = grind (arith, common_steps)
