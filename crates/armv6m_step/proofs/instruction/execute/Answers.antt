-- `execute`: that it keeps its contract.
use Rattle.std.proofs.Common.{arith}
use Rattle.armv6m_step.proofs.RunLemmas.{asks}
use Rattle.armv6m_step.proofs.instruction.execute.Goals as goal

pub returns-in-Alu : goal.returns-in-Alu
returns-in-Alu g c = grind (arith, asks)

pub returns-in-Branch : goal.returns-in-Branch
returns-in-Branch g c = grind (arith, asks)

pub returns-in-Other : goal.returns-in-Other
returns-in-Other g c = grind (arith, asks)
