-- `sync_earlier`: that it keeps its contract.
use Rattle.std.proofs.Common.{arith}
use Rattle.std.proofs.lemmas.Grind.{common_steps}
use Rattle.disk_files.proofs.cells_half.sync_earlier.Goals as goal

pub returns-else-cells-clause-does : goal.returns-else-cells-clause-does
returns-else-cells-clause-does g c = grind (arith, common_steps)
