-- `RunList::append`: that it keeps its contract.
use Rattle.std.proofs.Common.{arith}
use Rattle.std.proofs.lemmas.Grind.{common_steps}
use Rattle.byte_map.proofs.Sides.{resets}
use Rattle.byte_map.proofs.run_list.RunList.append.Goals as goal

pub append-requires-clause-fits : goal.append-requires-clause-fits
append-requires-clause-fits c = grind (arith, common_steps)

pub returns-then-index-count-clause-err : goal.returns-then-index-count-clause-err
returns-then-index-count-clause-err c = grind (arith, common_steps)

pub index_mut-requires : goal.index_mut-requires
index_mut-requires c = grind (arith, common_steps)

pub append-requires-else-index-count : goal.append-requires-else-index-count
append-requires-else-index-count c = grind (arith, common_steps)

pub returns-else-index-count-clause-err : goal.returns-else-index-count-clause-err
returns-else-index-count-clause-err c = grind (arith, common_steps)

pub returns-else-index-count-clause-ok : goal.returns-else-index-count-clause-ok
returns-else-index-count-clause-ok c = grind (arith, common_steps, resets)

pub returns-then-index-count-clause-ok : goal.returns-then-index-count-clause-ok
returns-then-index-count-clause-ok c = grind (arith, resets)
