-- `run`: that it keeps its contract.
use Rattle.std.proofs.Common.{arith}
use Rattle.std.proofs.lemmas.Bool.Decides.{nat_tests}
use Rattle.armv6m_step.proofs.other.run.Goals as goal

pub returns-in-Revsh : goal.returns-in-Revsh
returns-in-Revsh c = grind (arith, nat_tests)
