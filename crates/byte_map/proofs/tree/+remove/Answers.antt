-- `+remove`: that it keeps its contract, and what `remove` requires.
use Rattle.std.proofs.Common.{arith}
use Rattle.std.proofs.lemmas.Grind.{common_steps}
use Rattle.byte_map.proofs.Sides.{sides}
use Rattle.byte_map.proofs.tree.+remove.Goals as goal

pub remove-requires-then-len-place : goal.remove-requires-then-len-place
remove-requires-then-len-place t c = grind (arith, sides)

pub invariant_of-node-then-len-place : goal.invariant_of-node-then-len-place
invariant_of-node-then-len-place t c = grind (arith, sides)

pub invariant_of-node : goal.invariant_of-node
invariant_of-node t c = grind (arith, sides)

pub returns : goal.returns
returns t c = grind (arith, sides)

pub returns-then-len-place : goal.returns-then-len-place
returns-then-len-place t c = grind (arith, sides)

pub returns-then-index-before : goal.returns-then-index-before
returns-then-index-before t c = grind (arith, sides)

pub overflow_sub-node-then-len-place : goal.overflow_sub-node-then-len-place
overflow_sub-node-then-len-place t c = grind (arith, common_steps)
