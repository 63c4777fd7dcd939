-- `Target::start`: that it keeps its contract.
use Rattle.std.proofs.Common.{arith}
use Rattle.std.proofs.lemmas.Grind.{common_steps}
use Rattle.target_core.proofs.target.Target.start.Goals as goal

pub returns : goal.returns
returns c = grind (arith, common_steps)
