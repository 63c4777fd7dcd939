-- `count_of`: its clause `bytes`.
use Rattle.std.proofs.Common.{arith}
use Rattle.duty_runs.proofs.ask.count_of.Goals as goal

pub returns-in-Ok-clause-bytes : goal.returns-in-Ok-clause-bytes
returns-in-Ok-clause-bytes c = λ k. omega (arith, c.type_inv.bytes k)

pub returns-in-Err-clause-bytes : goal.returns-in-Err-clause-bytes
returns-in-Err-clause-bytes c = λ k. omega (arith, c.type_inv.bytes k)
