-- `make`: its clause `calls`.
use Rattle.std.proofs.Common.{arith}
use Rattle.std.proofs.lemmas.Grind.{common_steps}
use Rattle.demo_job.proofs.made.make.Goals as goal

pub returns-clause-calls : goal.returns-clause-calls
returns-clause-calls c = grind (arith, common_steps)
