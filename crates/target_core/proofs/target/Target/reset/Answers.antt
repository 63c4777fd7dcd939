-- `Target::reset`: that it keeps its contract.
use Rattle.std.proofs.Common.{arith}
use Rattle.std.proofs.lemmas.Grind.{common_steps}
use Rattle.target_core.proofs.target.Target.reset.Goals as goal

pub returns-clause-err : goal.returns-clause-err
returns-clause-err g c = grind (arith, common_steps)

pub returns-clause-ram : goal.returns-clause-ram
returns-clause-ram g c = grind (arith, common_steps)
