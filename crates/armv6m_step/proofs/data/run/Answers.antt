-- `run`: that it keeps its contract.
use Rattle.std.proofs.Common.{arith}
use Rattle.std.proofs.lemmas.Bool.Decides.{nat_tests}
use Rattle.armv6m_step.proofs.data.run.Goals as goal

pub returns-in-Muls : goal.returns-in-Muls
returns-in-Muls c = grind (arith, nat_tests)

pub returns-in-AsrsRegister : goal.returns-in-AsrsRegister
returns-in-AsrsRegister c = grind (arith, nat_tests)

pub returns-in-Adcs : goal.returns-in-Adcs
returns-in-Adcs c = grind (arith, nat_tests)

pub returns-in-Rsbs : goal.returns-in-Rsbs
returns-in-Rsbs c = grind (arith, nat_tests)

pub returns-in-Bics : goal.returns-in-Bics
returns-in-Bics c = grind (arith, nat_tests)

pub returns-in-Sbcs : goal.returns-in-Sbcs
returns-in-Sbcs c = grind (arith, nat_tests)

pub returns-in-Eors : goal.returns-in-Eors
returns-in-Eors c = grind (arith, nat_tests)

pub returns-in-Cmn : goal.returns-in-Cmn
returns-in-Cmn c = grind (arith, nat_tests)

pub returns-in-Rors : goal.returns-in-Rors
returns-in-Rors c = grind (arith, nat_tests)

pub returns-in-Mvns : goal.returns-in-Mvns
returns-in-Mvns c = grind (arith, nat_tests)

pub returns-in-CmpRegister : goal.returns-in-CmpRegister
returns-in-CmpRegister c = grind (arith, nat_tests)

pub returns-in-MovHigh : goal.returns-in-MovHigh
returns-in-MovHigh c = grind (arith, nat_tests)

pub returns-in-Tst : goal.returns-in-Tst
returns-in-Tst c = grind (arith, nat_tests)

pub returns-in-Orrs : goal.returns-in-Orrs
returns-in-Orrs c = grind (arith, nat_tests)

pub returns-in-LsrsRegister : goal.returns-in-LsrsRegister
returns-in-LsrsRegister c = grind (arith, nat_tests)

pub returns-in-LslsRegister : goal.returns-in-LslsRegister
returns-in-LslsRegister c = grind (arith, nat_tests)

pub returns-in-Ands : goal.returns-in-Ands
returns-in-Ands c = grind (arith, nat_tests)
