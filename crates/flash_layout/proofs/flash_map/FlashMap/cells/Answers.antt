-- `FlashMap::cells`: that it keeps its contract, that its loop keeps its invariant, and that no number overflows.
use Rattle.std.proofs.Common.{arith}
use Rattle.std.proofs.lemmas.Grind.{common_steps}
use Rattle.flash_layout.proofs.flash_map.FlashMap.cells.Goals as goal

pub overflow_add-cells : goal.overflow_add-cells
overflow_add-cells c = grind (arith, common_steps)

pub returns : goal.returns
returns c = grind (arith, common_steps)

pub loop-area-preserved : goal.loop-area-preserved
loop-area-preserved c = grind (arith, common_steps)
