-- `read_operands`: its contract, `Spell`.
use Rattle.armv6m_asm.proofs.OperandLemmas.{operands_exact}
use Rattle.armv6m_asm.proofs.operands.read_operands.Goals as goal

pub returns : goal.returns
returns c = operands_exact _ _ c.operands_of_line.ensures
