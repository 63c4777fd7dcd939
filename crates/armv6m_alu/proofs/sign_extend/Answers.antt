-- `sign_extend`: that it keeps its contract, and that no number overflows.
use Rattle.std.proofs.lemmas.Bool.Decides.{nat_tests}
use Rattle.armv6m_alu.proofs.PowerLemmas.{powers}
use Rattle.std.proofs.Common.{arith}
use Rattle.armv6m_alu.proofs.sign_extend.Goals as goal

pub overflow_add-result : goal.overflow_add-result
overflow_add-result c = grind (arith, powers, nat_tests)

pub returns-else-value-sign : goal.returns-else-value-sign
returns-else-value-sign c = grind (arith, powers, nat_tests)
