-- `pair`: that it keeps its contract.
use Rattle.std.proofs.Common.{arith}
use Rattle.armv6m_step.proofs.RunLemmas.{asks}
use Rattle.armv6m_step.proofs.instruction.pair.Goals as goal

pub returns-in-None : goal.returns-in-None
returns-in-None g c = grind (arith, asks)

pub returns-in-Some-Branch : goal.returns-in-Some-Branch
returns-in-Some-Branch g c = grind (arith, asks)

pub returns-in-Some : goal.returns-in-Some
returns-in-Some g c = grind (arith, asks)
