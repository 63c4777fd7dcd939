-- `CallsIn::hand_over`: that it keeps its contract.
use Rattle.std.proofs.Common.{arith}
use Rattle.std.proofs.lemmas.Grind.{common_steps}
use Rattle.algo_calls.specs.Frames.{first_point}
use Rattle.algo_calls.proofs.calls_in.CallsIn.hand_over.Goals as goal

pub returns-clause-first : goal.returns-clause-first
unfolding first_point
returns-clause-first c = grind (arith, common_steps)

pub returns-clause-ram : goal.returns-clause-ram
unfolding first_point
returns-clause-ram c = grind (arith, common_steps)
