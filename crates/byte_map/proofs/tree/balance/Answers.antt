-- `balance`: that it keeps its contract.
use Rattle.std.proofs.Common.{arith}
use Rattle.std.proofs.lemmas.Grind.{common_steps}
use Rattle.byte_map.proofs.tree.balance.Goals as goal

pub invariant_of-node-in-Some : goal.invariant_of-node-in-Some
invariant_of-node-in-Some c = grind (arith, common_steps)

pub invariant_of-node-in_default-take : goal.invariant_of-node-in_default-take
invariant_of-node-in_default-take c = grind (arith, common_steps)

pub invariant_of-node-in-Some-take : goal.invariant_of-node-in-Some-take
invariant_of-node-in-Some-take c = grind (arith, common_steps)

pub invariant_of-node-in_default : goal.invariant_of-node-in_default
invariant_of-node-in_default c = grind (arith, common_steps)
