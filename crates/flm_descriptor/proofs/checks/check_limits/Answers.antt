-- `check_limits`: that it keeps its contract, and what `check_device` requires.
use Rattle.std.proofs.Common.{arith}
use Rattle.std.proofs.lemmas.Grind.{common_steps}
use Rattle.flm_descriptor.proofs.checks.check_limits.Goals as goal

pub returns-clause-lawful : goal.returns-clause-lawful
returns-clause-lawful c = grind (arith, common_steps)

pub returns-clause-in_memory : goal.returns-clause-in_memory
returns-clause-in_memory c = grind (arith, common_steps)

pub check_device-requires-clause-steps : goal.check_device-requires-clause-steps
check_device-requires-clause-steps c = grind (arith, common_steps)

pub check_device-requires-clause-page : goal.check_device-requires-clause-page
check_device-requires-clause-page c = grind (arith, common_steps)
