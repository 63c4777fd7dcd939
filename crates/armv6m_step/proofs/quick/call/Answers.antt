-- `call`: that it keeps its contract.
use Rattle.std.proofs.Common.{arith}
use Rattle.armv6m_step.proofs.RunLemmas.{asks}
use Rattle.std.proofs.lemmas.Bool.Decides.{nat_tests}
use Rattle.armv6m_step.proofs.quick.call.Goals as goal

pub returns-in-Some-Branch-Bl : goal.returns-in-Some-Branch-Bl
returns-in-Some-Branch-Bl g c = grind (arith, asks, nat_tests)
