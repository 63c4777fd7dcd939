-- `+put_last`: that it keeps its contract.
use Rattle.std.proofs.Common.{arith}
use Rattle.std.proofs.lemmas.Grind.{common_steps}
use Rattle.byte_map.proofs.Sides.{sides}
use Rattle.byte_map.proofs.tree.+put_last.Goals as goal

pub put_last-requires : goal.put_last-requires
put_last-requires t c = grind (arith, sides)

pub overflow_add-node : goal.overflow_add-node
overflow_add-node t c = grind (arith, sides)

pub invariant_of-node : goal.invariant_of-node
invariant_of-node t c = grind (arith, sides)

pub returns : goal.returns
returns t c = grind (arith, common_steps)
