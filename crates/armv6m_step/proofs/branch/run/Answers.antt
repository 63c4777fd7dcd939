-- `run`: that it keeps its contract.
use Rattle.std.proofs.Common.{arith}
use Rattle.std.proofs.lemmas.Bool.Decides.{nat_tests}
use Rattle.armv6m_step.proofs.branch.run.Goals as goal

pub returns-else-condition_holds : goal.returns-else-condition_holds
returns-else-condition_holds c = grind (arith, nat_tests)

pub returns-then-condition_holds : goal.returns-then-condition_holds
returns-then-condition_holds c = grind (arith, nat_tests)
