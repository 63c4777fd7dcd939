-- `compare_high`: that it keeps its contract.
use Rattle.std.proofs.Common.{arith}
use Rattle.std.proofs.lemmas.Bool.Decides.{nat_tests}
use Rattle.armv6m_step.proofs.data.compare_high.Goals as goal

pub returns : goal.returns
returns c = grind (arith, nat_tests)
