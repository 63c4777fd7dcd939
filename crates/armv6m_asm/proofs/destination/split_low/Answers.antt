-- `split_low`: its contract, `Token`.
use Rattle.std.proofs.Common.{arith}
use Rattle.std.proofs.lemmas.Grind.{common_steps}
use Rattle.armv6m_asm.proofs.StatementLemmas.{no_low}
use Rattle.armv6m_asm.proofs.destination.split_low.Goals as goal

pub returns-else-register-lt-LOW : goal.returns-else-register-lt-LOW
returns-else-register-lt-LOW c =
    no_low _ _ _ _ c.in_ok-bytes.ensures c.in_ok-register.ensures.some c.in_ok-register.ensures.below c.if-register-lt-LOW.false

pub returns-then-register-lt-LOW : goal.returns-then-register-lt-LOW
returns-then-register-lt-LOW c = grind (arith, common_steps)
