-- `RunList::shorten_tail`: that it keeps its contract.
use Rattle.std.proofs.Common.{arith}
use Rattle.std.proofs.lemmas.Grind.{common_steps}
use Rattle.byte_map.proofs.Sides.{sides}
use Rattle.byte_map.proofs.run_list.RunList.shorten_tail.Goals as goal

pub returns-in-Ok : goal.returns-in-Ok
returns-in-Ok c = grind (arith, sides)

pub invariant_of-self-in-Ok-2 : goal.invariant_of-self-in-Ok-2
invariant_of-self-in-Ok-2 c = grind (arith, sides)

pub invariant_of-self : goal.invariant_of-self
invariant_of-self c = grind (arith, common_steps)

pub put_last-requires : goal.put_last-requires
put_last-requires c = grind (arith, common_steps)

pub invariant_of-self-in_default : goal.invariant_of-self-in_default
invariant_of-self-in_default c = grind (arith, common_steps)
