-- `RunList::remove_one`: that it keeps its contract.
use Rattle.std.proofs.Common.{arith}
use Rattle.std.proofs.lemmas.Grind.{common_steps}
use Rattle.byte_map.proofs.Sides.{sides}
use Rattle.byte_map.proofs.run_list.RunList.remove_one.Goals as goal

pub returns-else-index-count : goal.returns-else-index-count
returns-else-index-count c = grind (arith, sides)

pub returns-then-index-count : goal.returns-then-index-count
returns-then-index-count c = grind (arith, sides)

pub remove-requires : goal.remove-requires
remove-requires c = grind (arith, common_steps)

pub remove-run-requires : goal.remove-run-requires
remove-run-requires c = grind (arith, common_steps)

pub invariant_of-self-then-index-count-2 : goal.invariant_of-self-then-index-count-2
invariant_of-self-then-index-count-2 c = grind (arith, common_steps)

pub invariant_of-self : goal.invariant_of-self
invariant_of-self c = grind (arith, common_steps)
