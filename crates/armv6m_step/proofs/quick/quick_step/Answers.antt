-- `quick_step`: that it keeps its contract.
use Rattle.std.proofs.Common.{arith}
use Rattle.armv6m_step.proofs.RunLemmas.{asks}
use Rattle.armv6m_step.specs.Step.{instruction}
use Rattle.armv6m_step.proofs.quick.quick_step.Goals as goal

pub returns-in-Some : goal.returns-in-Some
unfolding instruction
returns-in-Some g c = grind (arith, asks)
