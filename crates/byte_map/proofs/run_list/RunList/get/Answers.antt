-- `RunList::get`: that it keeps its contract.
use Rattle.std.proofs.Common.{arith}
use Rattle.std.proofs.lemmas.Grind.{common_steps}
use Rattle.byte_map.proofs.run_list.RunList.get.Goals as goal

pub returns-then-index-count : goal.returns-then-index-count
returns-then-index-count c = grind (arith, common_steps)

pub returns-else-index-count : goal.returns-else-index-count
returns-else-index-count c = grind (arith, common_steps)

pub index-requires : goal.index-requires
index-requires c = grind (arith, common_steps)
