-- `take`: that it keeps its contract.
use Rattle.std.proofs.Common.{arith}
use Rattle.std.proofs.lemmas.Grind.{common_steps}
use Rattle.outside_io.proofs.memory_inputs.MemoryInputsInputs.take.Goals as goal

pub returns-in_ok-copy-in-Some-clause-exact : goal.returns-in_ok-copy-in-Some-clause-exact
returns-in_ok-copy-in-Some-clause-exact c = grind (arith, common_steps)

pub returns-in_ok-remember-in_default-clause-exact : goal.returns-in_ok-remember-in_default-clause-exact
returns-in_ok-remember-in_default-clause-exact c = grind (arith, common_steps)

pub returns-in_ok-remember-in_default-clause-cause : goal.returns-in_ok-remember-in_default-clause-cause
returns-in_ok-remember-in_default-clause-cause c = grind (arith, common_steps)

pub returns-in_ok-copy-in-Some-clause-short : goal.returns-in_ok-copy-in-Some-clause-short
returns-in_ok-copy-in-Some-clause-short c = grind (arith, common_steps)

pub returns-in_ok-copy-in-Some-clause-remembers : goal.returns-in_ok-copy-in-Some-clause-remembers
returns-in_ok-copy-in-Some-clause-remembers c = grind (arith, common_steps)

pub returns-in_ok-copy-in-Some-clause-cause : goal.returns-in_ok-copy-in-Some-clause-cause
returns-in_ok-copy-in-Some-clause-cause c = grind (arith, common_steps)
