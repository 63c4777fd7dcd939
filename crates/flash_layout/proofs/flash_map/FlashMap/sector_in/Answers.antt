-- `FlashMap::sector_in`: that it keeps its contract, that its loop keeps its invariant, and that no number overflows.
use Rattle.std.proofs.Common.{arith}
use Rattle.std.proofs.lemmas.Grind.{common_steps}
use Rattle.flash_layout.proofs.flash_map.FlashMap.sector_in.Goals as goal

pub loop-run-preserved : goal.loop-run-preserved
loop-run-preserved c = grind (arith, common_steps)

pub overflow_add-from : goal.overflow_add-from
overflow_add-from c = grind (arith, common_steps)

pub overflow_mul-len : goal.overflow_mul-len
overflow_mul-len c = grind (arith, common_steps)

pub nonzero_div-before : goal.nonzero_div-before
nonzero_div-before c = grind (arith, common_steps)

pub returns : goal.returns
returns c = grind (arith, common_steps)

pub returns-then-place-from : goal.returns-then-place-from
returns-then-place-from c = grind (arith, common_steps)
