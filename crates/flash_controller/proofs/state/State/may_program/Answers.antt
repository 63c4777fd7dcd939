-- `State::may_program`: that it keeps its contract.
use Rattle.std.proofs.Common.{arith}
use Rattle.std.proofs.lemmas.Grind.{common_steps}
use Rattle.flash_controller.proofs.state.State.may_program.Goals as goal

pub returns-then-self-eq-PROGRAM : goal.returns-then-self-eq-PROGRAM
returns-then-self-eq-PROGRAM c = grind (arith, common_steps)
