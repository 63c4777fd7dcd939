-- `is_due`: that it keeps its contract.
use Rattle.std.proofs.Common.{arith}
use Rattle.std.proofs.lemmas.Grind.{common_steps}
use Rattle.faults.proofs.failing_calls.FailingCalls.is_due.Goals as goal

pub returns : goal.returns
returns c = grind (arith, common_steps)
