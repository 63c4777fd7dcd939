-- `StateRegisters::program`: that it keeps its contract.
use Rattle.std.proofs.Common.{arith}
use Rattle.std.proofs.lemmas.Grind.{common_steps}
use Rattle.flash_controller.specs.Table.{program}
use Rattle.flash_controller.proofs.registers.StateRegisters.program.Goals as goal

pub returns-then-not-all_are-clause-row : goal.returns-then-not-all_are-clause-row
unfolding program
returns-then-not-all_are-clause-row c = grind (arith, common_steps)
