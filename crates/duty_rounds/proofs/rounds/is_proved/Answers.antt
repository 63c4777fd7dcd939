-- `is_proved`: its clause `serves`.
use Rattle.std.proofs.Common.{arith}
use Rattle.std.proofs.lemmas.Grind.{common_steps}
use Rattle.duty_rounds.proofs.rounds.is_proved.Goals as goal

pub returns-else-subject-eq0-clause-serves : goal.returns-else-subject-eq0-clause-serves
returns-else-subject-eq0-clause-serves c = grind (arith, common_steps)

pub returns-then-subject-eq0-clause-serves : goal.returns-then-subject-eq0-clause-serves
returns-then-subject-eq0-clause-serves c = grind (arith, common_steps)
