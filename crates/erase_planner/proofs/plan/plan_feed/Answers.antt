-- `plan_feed`: its clauses `fed` and `making`.
use Rattle.std.proofs.Common.{arith}
use Rattle.std.proofs.lemmas.Grind.{common_steps}
use Rattle.erase_planner.proofs.plan.plan_feed.Goals as goal

pub returns-clause-fed : goal.returns-clause-fed
returns-clause-fed c = grind (arith, common_steps)

pub returns-clause-making : goal.returns-clause-making
returns-clause-making c = grind (arith, common_steps)
