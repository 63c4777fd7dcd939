-- `raise_left`: that it keeps its contract.
use Rattle.std.proofs.Common.{arith}
use Rattle.std.proofs.lemmas.Grind.{common_steps}
use Rattle.byte_map.proofs.Sides.{sides}
use Rattle.byte_map.proofs.tree.raise_left.Goals as goal

pub invariant_of-node : goal.invariant_of-node
invariant_of-node c = grind (arith, sides)

pub overflow_add-lowered-2 : goal.overflow_add-lowered-2
overflow_add-lowered-2 c = grind (arith, sides)

pub returns : goal.returns
returns c = grind (arith, sides)

pub invariant_of-lowered : goal.invariant_of-lowered
invariant_of-lowered c = grind (arith, common_steps)
