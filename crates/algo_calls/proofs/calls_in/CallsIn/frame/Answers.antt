-- `CallsIn::frame`: its clause `regs`.
use Rattle.std.proofs.Common.{arith}
use Rattle.std.proofs.lemmas.Grind.{common_steps}
use Rattle.algo_calls.proofs.calls_in.CallsIn.frame.Goals as goal

pub returns-clause-regs : goal.returns-clause-regs
returns-clause-regs c = grind (arith, common_steps)
