-- `signed_byte_into`: that it keeps its contract.
use Rattle.std.proofs.Common.{arith}
use Rattle.armv6m_step.proofs.RunLemmas.{asks}
use Rattle.armv6m_step.specs.MemoryRows.{load_signed_byte}
use Rattle.armv6m_step.proofs.memory.signed_byte_into.Goals as goal

pub returns : goal.returns
unfolding load_signed_byte
returns g c = grind (arith, asks)

pub returns-in_err-value : goal.returns-in_err-value
unfolding load_signed_byte
returns-in_err-value g c = grind (arith, asks)
