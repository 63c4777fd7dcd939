-- `+take_first`: that it keeps its contract, and that no number overflows.
use Rattle.std.proofs.Common.{arith}
use Rattle.std.proofs.lemmas.Grind.{common_steps}
use Rattle.byte_map.proofs.Sides.{sides}
use Rattle.byte_map.proofs.tree.+take_first.Goals as goal

pub invariant_of-node-2 : goal.invariant_of-node-2
invariant_of-node-2 t c = grind (arith, sides)

pub returns : goal.returns
returns t c = grind (arith, sides)

pub overflow_sub-node : goal.overflow_sub-node
overflow_sub-node t c = grind (arith, sides)

pub invariant_of-node : goal.invariant_of-node
invariant_of-node t c = grind (arith, common_steps)
