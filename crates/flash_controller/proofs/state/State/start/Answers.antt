-- `State::start`: that it keeps its contract.
use Rattle.std.proofs.Common.{arith}
use Rattle.std.proofs.lemmas.Grind.{common_steps}
use Rattle.flash_controller.specs.Table.{started}
use Rattle.flash_controller.proofs.state.State.start.Goals as goal

pub returns-in-Some-erases_first-clause-value : goal.returns-in-Some-erases_first-clause-value
unfolding started
returns-in-Some-erases_first-clause-value c = grind (arith, common_steps)
