-- `cells_read_at`: that it keeps its contract.
use Rattle.std.proofs.Common.{arith}
use Rattle.std.proofs.lemmas.Grind.{common_steps}
use Rattle.disk_files.proofs.memory_disk.MemoryDiskDisk.cells_read_at.Goals as goal

pub returns-then-from-len-clause-fails : goal.returns-then-from-len-clause-fails
returns-then-from-len-clause-fails c = grind (arith, common_steps)

pub returns-clause-does : goal.returns-clause-does
returns-clause-does c = grind (arith, common_steps)

pub returns-then-from-len-clause-does : goal.returns-then-from-len-clause-does
returns-then-from-len-clause-does c = grind (arith, common_steps)

pub returns-clause-fails : goal.returns-clause-fails
returns-clause-fails c = grind (arith, common_steps)

pub copy_from_slice-requires : goal.copy_from_slice-requires
copy_from_slice-requires c = grind (arith, common_steps)
