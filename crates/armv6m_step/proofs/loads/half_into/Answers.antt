-- `half_into`: that it keeps its contract.
use Rattle.std.proofs.Common.{arith}
use Rattle.armv6m_step.proofs.RunLemmas.{asks}
use Rattle.armv6m_step.specs.MemoryRows.{load_half}
use Rattle.armv6m_step.proofs.loads.half_into.Goals as goal

pub returns-in-Ok : goal.returns-in-Ok
unfolding load_half
returns-in-Ok g c = grind (arith, asks)

pub returns-in-Err : goal.returns-in-Err
unfolding load_half
returns-in-Err g c = grind (arith, asks)

pub returns-in-Some : goal.returns-in-Some
unfolding load_half
returns-in-Some g c = grind (arith, asks)
