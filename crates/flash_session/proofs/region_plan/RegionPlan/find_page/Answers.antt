-- `RegionPlan::find_page`: that it keeps its contract, and that its loop keeps its invariant.
use Rattle.std.proofs.Common.{◌∙◌, length, get_or, false, sym, arith}
use Rattle.flash_session.specs.Script.{page_at}
use Rattle.flash_session.specs.Targets.{work_in}
use Rattle.flash_session.proofs.Lists.{none_of}
use Rattle.flash_session.proofs.RestLemmas.{from_skip, from_none}
use Rattle.flash_session.proofs.region_plan.RegionPlan.find_page.Goals as goal

pub loop-k-preserved : goal.loop-k-preserved
loop-k-preserved c = λ v s bytes.
    c.loop-k.invariant v s bytes
    ∙ from_skip (page_at v s (work_in c.args.self.now bytes)) (length c.args.self.now.geometry.pages) c.loop-k.k (omega (arith, c.pages-count.ensures.count))
    (none_of (get_or c.args.self.now.plan.made.pages c.loop-k.k false) _ (sym c.page_in.ensures ∙ c.if-page_in.false))

pub returns : goal.returns
returns c = λ v s bytes.
    c.loop-k.invariant v s bytes ∙ from_none (page_at v s (work_in c.args.self.now bytes)) (length c.args.self.now.geometry.pages) c.loop-k.k
    (omega (arith, c.pages-count.ensures.count))

pub returns-then-page_in : goal.returns-then-page_in
returns-then-page_in c = (omega (arith, c.pages-count.ensures.count), sym c.page_in.ensures ∙ c.if-page_in.true, c.loop-k.invariant)
