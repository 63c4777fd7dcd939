-- `job_open`: that it keeps its contract.
use Rattle.std.proofs.Common.{arith}
use Rattle.std.proofs.lemmas.Grind.{common_steps}
use Rattle.disk_files.proofs.memory_disk.MemoryDiskDisk.job_open.Goals as goal

pub returns-clause-does : goal.returns-clause-does
returns-clause-does c = grind (arith, common_steps)
