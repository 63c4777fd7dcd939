-- `ready_to_change`: that it keeps its contract.
use Rattle.std.proofs.Common.{arith}
use Rattle.std.proofs.lemmas.Grind.{common_steps}
use Rattle.disk_files.proofs.cells_half.ready_to_change.Goals as goal

pub returns-clause-fails : goal.returns-clause-fails
returns-clause-fails g c = grind (arith, common_steps)

pub returns-clause-does : goal.returns-clause-does
returns-clause-does g c = grind (arith, common_steps)
