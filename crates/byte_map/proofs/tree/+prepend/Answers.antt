-- `+prepend`: that it keeps its contract.
use Rattle.std.proofs.Common.{arith}
use Rattle.std.proofs.lemmas.Grind.{common_steps}
use Rattle.byte_map.proofs.Sides.{resets}
use Rattle.byte_map.proofs.tree.+prepend.Goals as goal

pub prepend-requires : goal.prepend-requires
prepend-requires t c = grind (arith, resets)

pub prepend-requires-then-len-place : goal.prepend-requires-then-len-place
prepend-requires-then-len-place t c = grind (arith, resets)

pub prepend-requires-2 : goal.prepend-requires-2
prepend-requires-2 t c = grind (arith, common_steps)

pub returns-then-index-before-clause-err : goal.returns-then-index-before-clause-err
returns-then-index-before-clause-err t c = grind (arith, common_steps)

pub invariant_of-node-2 : goal.invariant_of-node-2
invariant_of-node-2 t c = grind (arith, common_steps)

pub returns-then-len-place-clause-ok : goal.returns-then-len-place-clause-ok
returns-then-len-place-clause-ok t c = grind (arith, resets)

pub returns-clause-ok : goal.returns-clause-ok
returns-clause-ok t c = grind (arith, common_steps, resets)

pub returns-then-index-before-clause-ok : goal.returns-then-index-before-clause-ok
returns-then-index-before-clause-ok t c = grind (arith, resets)
