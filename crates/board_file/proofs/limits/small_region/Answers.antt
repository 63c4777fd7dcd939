-- `small_region`: that it keeps its contract.
use Rattle.std.proofs.Common.{arith}
use Rattle.std.proofs.lemmas.Grind.{common_steps}
use Rattle.board_file.proofs.limits.small_region.Goals as goal

pub returns-clause-fits : goal.returns-clause-fits
returns-clause-fits c = grind (arith, common_steps)

pub overflow_sub-size : goal.overflow_sub-size
overflow_sub-size c = grind (arith, common_steps)

pub returns-clause-cells : goal.returns-clause-cells
returns-clause-cells c = grind (arith, common_steps)

pub returns-then-from-gt-ADDRESSES-clause-said : goal.returns-then-from-gt-ADDRESSES-clause-said
returns-then-from-gt-ADDRESSES-clause-said c = grind (arith, common_steps)

pub returns-clause-sectors : goal.returns-clause-sectors
returns-clause-sectors c = grind (arith, common_steps)
