-- `ldrb_immediate`: that it keeps its contract.
use Rattle.std.proofs.Common.{arith}
use Rattle.armv6m_step.proofs.RunLemmas.{asks}
use Rattle.std.proofs.lemmas.Bool.Decides.{nat_tests}
use Rattle.armv6m_step.proofs.quick.ldrb_immediate.Goals as goal

pub returns : goal.returns
returns g c = grind (arith, asks, nat_tests)
