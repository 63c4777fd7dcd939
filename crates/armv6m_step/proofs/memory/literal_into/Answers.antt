-- `literal_into`: that it keeps its contract.
use Rattle.std.proofs.Common.{arith}
use Rattle.armv6m_step.proofs.RunLemmas.{asks}
use Rattle.armv6m_step.specs.MemoryRows.{load_word}
use Rattle.armv6m_step.proofs.memory.literal_into.Goals as goal

pub returns-in_err-value : goal.returns-in_err-value
unfolding load_word
returns-in_err-value g c = grind (arith, asks)

pub returns : goal.returns
unfolding load_word
returns g c = grind (arith, asks)
