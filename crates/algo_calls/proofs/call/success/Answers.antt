-- `success`: that it keeps its contract.
use Rattle.std.proofs.Common.{arith}
use Rattle.std.proofs.lemmas.Grind.{common_steps}
use Rattle.algo_calls.proofs.call.success.Goals as goal

pub returns-in-Verify : goal.returns-in-Verify
returns-in-Verify c = grind (arith, common_steps)
