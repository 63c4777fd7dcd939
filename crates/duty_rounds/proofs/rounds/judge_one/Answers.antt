-- `judge_one`: its clauses `proved` and `says`.
use Rattle.std.proofs.Common.{arith}
use Rattle.std.proofs.lemmas.Grind.{common_steps}
use Rattle.duty_rounds.proofs.rounds.judge_one.Goals as goal

pub returns-clause-proved : goal.returns-clause-proved
returns-clause-proved g c = grind (arith, common_steps)

pub returns-clause-says : goal.returns-clause-says
returns-clause-says g c = grind (arith, common_steps)

pub returns-then-is_proved-clause-says : goal.returns-then-is_proved-clause-says
returns-then-is_proved-clause-says g c = grind (arith, common_steps)
