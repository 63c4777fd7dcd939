-- `State::start`: that it keeps its contract.
use Rattle.std.proofs.Common.{arith}
use Rattle.std.proofs.lemmas.Grind.{common_steps}
use Rattle.fpec_controller.specs.Table.{started}
use Rattle.fpec_controller.proofs.state.State.start.Goals as goal

pub returns-in-Some-clause-value : goal.returns-in-Some-clause-value
unfolding started
returns-in-Some-clause-value c = grind (arith, common_steps)
