-- `map_of_cells`: its contract, that its loop keeps its invariant, and that each piece lies among the cells.
use Rattle.std.proofs.lemmas.Grind.{common_steps}
use Rattle.std.proofs.Common.{refl, arith}
use Rattle.device_dump.proofs.CellLemmas.{one_mapped}
use Rattle.device_dump.proofs.cells.map_of_cells.Goals as goal

pub loop-region-preserved : goal.loop-region-preserved
loop-region-preserved c =
    one_mapped c.args.regions.now c.args.cells.now c.loop-region.region-index c.loop-region.place _ c.region-item.result _ c.loop-region.map c.lay.new.self
    c.loop-region-test.true c.region-item.is refl c.loop-region.invariant c.in-Ok.ensures.ok

pub slice_bounds-lay-end : goal.slice_bounds-lay-end
slice_bounds-lay-end c = grind (arith, common_steps)

pub returns : goal.returns
returns c = grind (arith, common_steps)
