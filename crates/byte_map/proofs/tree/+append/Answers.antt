-- `+append`: what `append` requires.
use Rattle.std.proofs.Common.{arith}
use Rattle.std.proofs.lemmas.Grind.{common_steps}
use Rattle.byte_map.proofs.Sides.{resets}
use Rattle.byte_map.proofs.tree.+append.Goals as goal

pub append-requires : goal.append-requires
append-requires t c = grind (arith, resets)

pub append-requires-then-len-place : goal.append-requires-then-len-place
append-requires-then-len-place t c = grind (arith, resets)

pub append-requires-2 : goal.append-requires-2
append-requires-2 t c = grind (arith, common_steps)

pub returns-then-index-before-clause-err : goal.returns-then-index-before-clause-err
returns-then-index-before-clause-err t c = grind (arith, common_steps)

pub invariant_of-node-2 : goal.invariant_of-node-2
invariant_of-node-2 t c = grind (arith, common_steps)

pub returns-clause-ok : goal.returns-clause-ok
returns-clause-ok t c = grind (arith, common_steps, resets)

pub returns-then-index-before-clause-ok : goal.returns-then-index-before-clause-ok
returns-then-index-before-clause-ok t c = grind (arith, resets)

pub returns-then-len-place-clause-ok : goal.returns-then-len-place-clause-ok
returns-then-len-place-clause-ok t c = grind (arith, resets)
