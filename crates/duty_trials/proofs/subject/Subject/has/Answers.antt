-- `Subject::has`: its contract.
use Rattle.std.proofs.Common.{arith}
use Rattle.std.proofs.lemmas.Grind.{common_steps}
use Rattle.duty_trials.proofs.subject.Subject.has.Goals as goal

pub returns-in-Sectors : goal.returns-in-Sectors
returns-in-Sectors c = grind (arith, common_steps)

pub returns-in-Chip : goal.returns-in-Chip
returns-in-Chip c = grind (arith, common_steps)

pub returns-in-Checks : goal.returns-in-Checks
returns-in-Checks c = grind (arith, common_steps)
