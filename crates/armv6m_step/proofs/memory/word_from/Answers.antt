-- `word_from`: that it keeps its contract.
use Rattle.std.proofs.Common.{arith}
use Rattle.armv6m_step.proofs.RunLemmas.{asks}
use Rattle.armv6m_step.specs.MemoryRows.{store_word}
use Rattle.armv6m_step.proofs.memory.word_from.Goals as goal

pub returns-in_err-word_to : goal.returns-in_err-word_to
unfolding store_word
returns-in_err-word_to g c = grind (arith, asks)

pub returns : goal.returns
unfolding store_word
returns g c = grind (arith, asks)
