-- `Machine::reset`: that it keeps its contract.
use Rattle.std.proofs.Common.{arith}
use Rattle.std.proofs.lemmas.Grind.{common_steps}
use Rattle.target_core.proofs.machine.Machine.reset.Goals as goal

pub returns-in-Ok-clause-ram_stays : goal.returns-in-Ok-clause-ram_stays
returns-in-Ok-clause-ram_stays g c = grind (arith, common_steps)

pub returns-in-Err-clause-err : goal.returns-in-Err-clause-err
returns-in-Err-clause-err g c = grind (arith, common_steps)

pub returns-in-Err-clause-others : goal.returns-in-Err-clause-others
returns-in-Err-clause-others g c = grind (arith, common_steps)

pub returns-in-Ok-clause-bytes : goal.returns-in-Ok-clause-bytes
returns-in-Ok-clause-bytes g c = grind (arith, common_steps)
