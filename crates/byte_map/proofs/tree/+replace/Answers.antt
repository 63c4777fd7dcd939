-- `+replace`: that it keeps its contract, and what `replace` requires.
use Rattle.std.proofs.Common.{arith}
use Rattle.std.proofs.lemmas.Grind.{common_steps}
use Rattle.byte_map.proofs.Sides.{resets}
use Rattle.byte_map.proofs.tree.+replace.Goals as goal

pub replace-requires-then-len-place : goal.replace-requires-then-len-place
replace-requires-then-len-place t c = grind (arith, resets)

pub returns : goal.returns
returns t c = grind (arith, resets)

pub returns-then-len-place : goal.returns-then-len-place
returns-then-len-place t c = grind (arith, resets)

pub returns-then-index-before : goal.returns-then-index-before
returns-then-index-before t c = grind (arith, resets)

pub invariant_of-node-then-len-place : goal.invariant_of-node-then-len-place
invariant_of-node-then-len-place t c = grind (arith, common_steps)

pub invariant_of-node-2 : goal.invariant_of-node-2
invariant_of-node-2 t c = grind (arith, common_steps)

pub invariant_of-node : goal.invariant_of-node
invariant_of-node t c = grind (arith, common_steps)
