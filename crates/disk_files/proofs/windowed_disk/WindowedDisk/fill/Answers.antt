-- `fill`: that it keeps its contract.
use Rattle.std.proofs.Common.{arith}
use Rattle.std.proofs.lemmas.Grind.{common_steps}
use Rattle.disk_files.proofs.windowed_disk.WindowedDisk.fill.Goals as goal

pub invariant_of-self-4 : goal.invariant_of-self-4
invariant_of-self-4 g c = grind (arith, common_steps)

pub returns-clause-fails : goal.returns-clause-fails
returns-clause-fails g c = grind (arith, common_steps)
