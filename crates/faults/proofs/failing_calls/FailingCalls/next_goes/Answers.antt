-- `next_goes`: that it keeps its contract.
use Rattle.std.proofs.Common.{arith}
use Rattle.std.proofs.lemmas.Grind.{common_steps}
use Rattle.faults.proofs.failing_calls.FailingCalls.next_goes.Goals as goal

pub returns-then-is_due-clause-fails : goal.returns-then-is_due-clause-fails
returns-then-is_due-clause-fails c = grind (arith, common_steps)

pub returns-clause-rose : goal.returns-clause-rose
returns-clause-rose c = grind (arith, common_steps)
