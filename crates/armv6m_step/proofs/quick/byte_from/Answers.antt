-- `byte_from`: that it keeps its contract.
use Rattle.std.proofs.Common.{arith}
use Rattle.armv6m_step.proofs.RunLemmas.{asks}
use Rattle.armv6m_step.specs.MemoryRows.{store_byte}
use Rattle.armv6m_step.proofs.quick.byte_from.Goals as goal

pub returns-in-Ok : goal.returns-in-Ok
unfolding store_byte
returns-in-Ok g c = grind (arith, asks)

pub returns-in-Err : goal.returns-in-Err
unfolding store_byte
returns-in-Err g c = grind (arith, asks)
