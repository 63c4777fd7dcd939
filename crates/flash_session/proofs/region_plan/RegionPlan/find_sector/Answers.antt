-- `RegionPlan::find_sector`: that it keeps its contract, and that its loop keeps its invariant.
use Rattle.std.proofs.Common.{◌∙◌, length, get_or, false, sym, arith}
use Rattle.flash_session.specs.Script.{sector_moves}
use Rattle.flash_session.specs.Targets.{planned_in}
use Rattle.flash_session.proofs.Lists.{none_of}
use Rattle.flash_session.proofs.RestLemmas.{from_skip, from_none}
use Rattle.flash_session.proofs.region_plan.RegionPlan.find_sector.Goals as goal

pub loop-k-preserved : goal.loop-k-preserved
loop-k-preserved c = λ s bytes.
    c.loop-k.invariant s bytes
    ∙ from_skip (sector_moves s (planned_in c.args.self.now)) (length c.args.self.now.geometry.sectors) c.loop-k.k
    (omega (arith, c.sectors-count.ensures.count))
    (none_of (get_or c.args.self.now.plan.made.sectors c.loop-k.k false) _ (sym c.sector_in.ensures ∙ c.if-sector_in.false))

pub returns : goal.returns
returns c = λ s bytes.
    c.loop-k.invariant s bytes ∙ from_none (sector_moves s (planned_in c.args.self.now)) (length c.args.self.now.geometry.sectors) c.loop-k.k
    (omega (arith, c.sectors-count.ensures.count))

pub returns-then-sector_in : goal.returns-then-sector_in
returns-then-sector_in c = (omega (arith, c.sectors-count.ensures.count), sym c.sector_in.ensures ∙ c.if-sector_in.true, c.loop-k.invariant)
