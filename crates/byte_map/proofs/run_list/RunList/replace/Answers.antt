-- `RunList::replace`: that it keeps its contract.
use Rattle.std.proofs.Common.{arith}
use Rattle.std.proofs.lemmas.Grind.{common_steps}
use Rattle.byte_map.proofs.Sides.{resets}
use Rattle.byte_map.proofs.run_list.RunList.replace.Goals as goal

pub index_mut-requires : goal.index_mut-requires
index_mut-requires c = grind (arith, common_steps)

pub invariant_of-self-else-index-count : goal.invariant_of-self-else-index-count
invariant_of-self-else-index-count c = grind (arith, common_steps)

pub returns-then-index-count : goal.returns-then-index-count
returns-then-index-count c = grind (arith, resets)

pub returns-else-index-count : goal.returns-else-index-count
returns-else-index-count c = grind (arith, resets)
