-- `byte_from`: that it keeps its contract.
use Rattle.std.proofs.Common.{arith}
use Rattle.armv6m_step.proofs.RunLemmas.{asks}
use Rattle.armv6m_step.specs.MemoryRows.{store_byte}
use Rattle.armv6m_step.proofs.memory.byte_from.Goals as goal

pub returns : goal.returns
unfolding store_byte
returns g c = grind (arith, asks)

pub returns-in_err-byte_to : goal.returns-in_err-byte_to
unfolding store_byte
returns-in_err-byte_to g c = grind (arith, asks)
