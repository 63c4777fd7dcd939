-- `Subject::count`: its clause `count`.
use Rattle.std.proofs.Common.{arith}
use Rattle.std.proofs.lemmas.Grind.{common_steps}
use Rattle.duty_trials.proofs.subject.Subject.count.Goals as goal

pub returns-in-Pages-clause-count : goal.returns-in-Pages-clause-count
returns-in-Pages-clause-count c = grind (arith, common_steps)

pub returns-in-Sectors-clause-count : goal.returns-in-Sectors-clause-count
returns-in-Sectors-clause-count c = grind (arith, common_steps)
