-- `sync_cells`: that it keeps its contract.
use Rattle.std.proofs.Common.{arith}
use Rattle.std.proofs.lemmas.Grind.{common_steps}
use Rattle.disk_files.proofs.cells_half.sync_cells.Goals as goal

pub returns-then-cells-clause-does : goal.returns-then-cells-clause-does
returns-then-cells-clause-does g c = grind (arith, common_steps)

pub returns-clause-fails : goal.returns-clause-fails
returns-clause-fails g c = grind (arith, common_steps)

pub returns-then-cells-clause-fails : goal.returns-then-cells-clause-fails
returns-then-cells-clause-fails g c = grind (arith, common_steps)

pub returns-clause-ok : goal.returns-clause-ok
returns-clause-ok g c = grind (arith, common_steps)

pub returns-clause-pending : goal.returns-clause-pending
returns-clause-pending g c = grind (arith, common_steps)

pub returns-clause-safe : goal.returns-clause-safe
returns-clause-safe g c = grind (arith, common_steps)
