-- `StateRegisters::program`: that it keeps its contract.
use Rattle.std.proofs.Common.{arith}
use Rattle.std.proofs.lemmas.Grind.{common_steps}
use Rattle.fpec_controller.specs.Table.{program}
use Rattle.fpec_controller.proofs.registers.StateRegisters.program.Goals as goal

pub returns-clause-row : goal.returns-clause-row
unfolding program
returns-clause-row c = grind (arith, common_steps)

pub returns-then-not-all_are-clause-row : goal.returns-then-not-all_are-clause-row
unfolding program
returns-then-not-all_are-clause-row c = grind (arith, common_steps)
