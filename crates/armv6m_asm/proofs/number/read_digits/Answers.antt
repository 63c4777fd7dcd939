-- `read_digits`: its contract, `IsNumeral`.
use Rattle.armv6m_asm.proofs.NumberLemmas.{IsUtf8-digits}
use Rattle.armv6m_asm.proofs.number.read_digits.Goals as goal

pub returns-in-Err : goal.returns-in-Err
returns-in-Err c = λ numeral small. c.in-Err.ensures.cases.0 (IsUtf8-digits _ _ c.requires.high numeral)
