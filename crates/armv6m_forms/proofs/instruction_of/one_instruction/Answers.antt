-- `one_instruction`: that it keeps its contract.
use Rattle.armv6m_forms.proofs.RowLemmas.{one_for_each}
use Rattle.armv6m_forms.proofs.instruction_of.one_instruction.Goals as goal

pub returns : goal.returns
returns c = one_for_each
