-- `read_job`: that it keeps its contract.
use Rattle.std.proofs.Common.{arith}
use Rattle.std.proofs.lemmas.Grind.{common_steps}
use Rattle.disk_files.proofs.job_half.read_job.Goals as goal

pub returns-clause-fails : goal.returns-clause-fails
returns-clause-fails g c = grind (arith, common_steps)

pub returns-clause-does : goal.returns-clause-does
returns-clause-does g c = grind (arith, common_steps)

pub returns-clause-ok : goal.returns-clause-ok
returns-clause-ok g c = grind (arith, common_steps)

pub read_all-requires-clause-at : goal.read_all-requires-clause-at
read_all-requires-clause-at g c = grind (arith, common_steps)
