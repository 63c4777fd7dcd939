-- `StateRegisters::load`: that it keeps its contract.
use Rattle.std.proofs.Common.{arith}
use Rattle.std.proofs.lemmas.Grind.{common_steps}
use Rattle.flash_controller.specs.Table.{load}
use Rattle.flash_controller.proofs.registers.StateRegisters.load.Goals as goal

pub returns-in-4 : goal.returns-in-4
unfolding load
returns-in-4 c = grind (arith, common_steps)
