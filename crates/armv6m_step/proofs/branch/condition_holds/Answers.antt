-- `condition_holds`: that it keeps its contract.
use Rattle.std.proofs.Common.{arith}
use Rattle.std.proofs.lemmas.Bool.Decides.{nat_tests}
use Rattle.armv6m_step.proofs.branch.condition_holds.Goals as goal

pub returns-else-not-core-2 : goal.returns-else-not-core-2
returns-else-not-core-2 c = grind (arith, nat_tests)
