-- `RunList::len`: that it keeps its contract.
use Rattle.std.proofs.Common.{arith}
use Rattle.std.proofs.lemmas.Grind.{common_steps}
use Rattle.byte_map.proofs.run_list.RunList.len.Goals as goal

pub returns-clause-length : goal.returns-clause-length
returns-clause-length c = grind (arith, common_steps)
