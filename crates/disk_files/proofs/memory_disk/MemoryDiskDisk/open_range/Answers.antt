-- `open_range`: that it keeps its contract.
use Rattle.std.proofs.Common.{arith}
use Rattle.std.proofs.lemmas.Grind.{common_steps}
use Rattle.disk_files.proofs.memory_disk.MemoryDiskDisk.open_range.Goals as goal

pub returns-then-len-count-clause-does : goal.returns-then-len-count-clause-does
returns-then-len-count-clause-does c = grind (arith, common_steps)

pub returns-in-Err-clause-fails : goal.returns-in-Err-clause-fails
returns-in-Err-clause-fails c = grind (arith, common_steps)

pub returns-then-len-count-clause-fails : goal.returns-then-len-count-clause-fails
returns-then-len-count-clause-fails c = grind (arith, common_steps)

pub returns-in-Ok-clause-fails : goal.returns-in-Ok-clause-fails
returns-in-Ok-clause-fails c = grind (arith, common_steps)

pub returns-in-Ok-clause-does : goal.returns-in-Ok-clause-does
returns-in-Ok-clause-does c = grind (arith, common_steps)

pub returns-in-Err-clause-does : goal.returns-in-Err-clause-does
returns-in-Err-clause-does c = grind (arith, common_steps)
