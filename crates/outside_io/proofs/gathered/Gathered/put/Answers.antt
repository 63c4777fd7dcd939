-- `put`: that it keeps its contract.
use Rattle.std.proofs.Common.{arith}
use Rattle.std.proofs.lemmas.Grind.{common_steps}
use Rattle.outside_io.proofs.gathered.Gathered.put.Goals as goal

pub returns-clause-puts : goal.returns-clause-puts
returns-clause-puts g c = grind (arith, common_steps)
