-- `try_number`: its contract, and what `try_plan` requires.
use Rattle.std.proofs.Common.{arith}
use Rattle.std.proofs.lemmas.Grind.{common_steps}
use Rattle.duty_rounds.proofs.rounds.try_number.Goals as goal

pub try_plan-requires-clause-function : goal.try_plan-requires-clause-function
try_plan-requires-clause-function g c = grind (arith, common_steps)

pub returns-then-not-has : goal.returns-then-not-has
returns-then-not-has g c = grind (arith, common_steps)

pub try_plan-requires-clause-cells : goal.try_plan-requires-clause-cells
try_plan-requires-clause-cells g c = grind (arith, common_steps)
