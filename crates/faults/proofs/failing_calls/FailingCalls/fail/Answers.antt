-- `fail`: that it keeps its contract.
use Rattle.std.proofs.Common.{arith}
use Rattle.std.proofs.lemmas.Grind.{common_steps}
use Rattle.faults.proofs.failing_calls.FailingCalls.fail.Goals as goal

pub returns-clause-rose : goal.returns-clause-rose
returns-clause-rose c = grind (arith, common_steps)
