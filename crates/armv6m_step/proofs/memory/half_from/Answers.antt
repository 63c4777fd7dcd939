-- `half_from`: that it keeps its contract.
use Rattle.std.proofs.Common.{arith}
use Rattle.armv6m_step.proofs.RunLemmas.{asks}
use Rattle.armv6m_step.specs.MemoryRows.{store_half}
use Rattle.armv6m_step.proofs.memory.half_from.Goals as goal

pub returns : goal.returns
unfolding store_half
returns g c = grind (arith, asks)

pub returns-in_err-half_to : goal.returns-in_err-half_to
unfolding store_half
returns-in_err-half_to g c = grind (arith, asks)
