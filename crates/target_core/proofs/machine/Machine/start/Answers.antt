-- `Machine::start`: that it keeps its contract.
use Rattle.std.proofs.Common.{arith}
use Rattle.std.proofs.lemmas.Grind.{common_steps}
use Rattle.target_core.proofs.machine.Machine.start.Goals as goal

pub returns-clause-starts : goal.returns-clause-starts
returns-clause-starts c = grind (arith, common_steps)
