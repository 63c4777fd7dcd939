-- `read_plain`: its contract, `ArePlain`.
use Rattle.std.proofs.Common.{arith}
use Rattle.std.proofs.lemmas.Grind.{common_steps}
use Rattle.armv6m_asm.proofs.StatementLemmas.{plain_exact}
use Rattle.armv6m_asm.proofs.operation.read_plain.Goals as goal

pub returns : goal.returns
returns c = plain_exact _ _ _ _ _ c.in_ok-mnemonic.ensures.some c.in_ok-operands.ensures c.instruction.ensures

pub returns-in_err-operands : goal.returns-in_err-operands
returns-in_err-operands c = grind (arith, common_steps)
