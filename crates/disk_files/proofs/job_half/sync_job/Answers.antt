-- `sync_job`: that it keeps its contract.
use Rattle.std.proofs.Common.{arith}
use Rattle.std.proofs.lemmas.Grind.{common_steps}
use Rattle.disk_files.proofs.job_half.sync_job.Goals as goal

pub returns-then-job-clause-fails : goal.returns-then-job-clause-fails
returns-then-job-clause-fails g c = grind (arith, common_steps)

pub returns-clause-fails : goal.returns-clause-fails
returns-clause-fails g c = grind (arith, common_steps)

pub returns-clause-does : goal.returns-clause-does
returns-clause-does g c = grind (arith, common_steps)

pub returns-clause-ok : goal.returns-clause-ok
returns-clause-ok g c = grind (arith, common_steps)
