-- `shift_right_signed`: that it keeps its contract.
use Rattle.armv6m_alu.specs.Shifts.{shifted_right_signed}
use Rattle.std.proofs.Common.{arith}
use Rattle.std.proofs.lemmas.Grind.{common_steps}
use Rattle.armv6m_alu.proofs.shift_right_signed.Goals as goal

pub returns-then-amount-lt32 : goal.returns-then-amount-lt32
unfolding shifted_right_signed
returns-then-amount-lt32 c = grind (arith, common_steps)
