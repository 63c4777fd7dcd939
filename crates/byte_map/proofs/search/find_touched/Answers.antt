-- `find_touched`: that it keeps its contract.
use Rattle.std.proofs.Common.{arith}
use Rattle.std.proofs.lemmas.Grind.{common_steps}
use Rattle.byte_map.proofs.search.find_touched.Goals as goal

pub returns : goal.returns
returns c = grind (arith, common_steps)
