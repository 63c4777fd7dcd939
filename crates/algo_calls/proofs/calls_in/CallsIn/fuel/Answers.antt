-- `CallsIn::fuel`: that it keeps its contract.
use Rattle.std.proofs.Common.{arith}
use Rattle.std.proofs.lemmas.Grind.{common_steps}
use Rattle.algo_calls.specs.Frames.{fuel_of}
use Rattle.algo_calls.proofs.calls_in.CallsIn.fuel.Goals as goal

pub returns : goal.returns
unfolding fuel_of
returns c = grind (arith, common_steps)
