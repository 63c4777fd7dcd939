-- `takes_chip`: that it keeps its contract.
use Rattle.std.proofs.Common.{arith}
use Rattle.std.proofs.lemmas.Grind.{common_steps}
use Rattle.erase_planner.proofs.choose.takes_chip.Goals as goal

pub returns-then-has_chip-clause-test : goal.returns-then-has_chip-clause-test
returns-then-has_chip-clause-test c = grind (arith, common_steps)
