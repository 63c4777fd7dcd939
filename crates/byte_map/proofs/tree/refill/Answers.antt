-- `refill`: that it keeps its contract.
use Rattle.std.proofs.Common.{arith}
use Rattle.std.proofs.lemmas.Grind.{common_steps}
use Rattle.byte_map.proofs.Sides.{sides}
use Rattle.byte_map.proofs.tree.refill.Goals as goal

pub invariant_of-node-2 : goal.invariant_of-node-2
invariant_of-node-2 c = grind (arith, sides)

pub returns : goal.returns
returns c = grind (arith, common_steps)

pub returns-in_default : goal.returns-in_default
returns-in_default c = grind (arith, common_steps)

pub invariant_of-node : goal.invariant_of-node
invariant_of-node c = grind (arith, common_steps)
