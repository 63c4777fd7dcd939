-- `open_job`: that it keeps its contract.
use Rattle.std.proofs.Common.{arith}
use Rattle.std.proofs.lemmas.Grind.{common_steps}
use Rattle.disk_files.proofs.job_half.open_job.Goals as goal

pub returns-then-job-clause-fails : goal.returns-then-job-clause-fails
returns-then-job-clause-fails g c = grind (arith, common_steps)

pub returns-in_ok-folder_sync-clause-does : goal.returns-in_ok-folder_sync-clause-does
returns-in_ok-folder_sync-clause-does g c = grind (arith, common_steps)

pub returns-in_ok-folder_sync-clause-fails : goal.returns-in_ok-folder_sync-clause-fails
returns-in_ok-folder_sync-clause-fails g c = grind (arith, common_steps)

pub returns-else-not-job-clause-does : goal.returns-else-not-job-clause-does
returns-else-not-job-clause-does g c = grind (arith, common_steps)
