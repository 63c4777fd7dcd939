-- `read_cells`: that it keeps its contract.
use Rattle.std.proofs.Common.{arith}
use Rattle.std.proofs.lemmas.Grind.{common_steps}
use Rattle.readback.proofs.cells.read_cells.Goals as goal

pub returns : goal.returns
returns g c = grind (arith, common_steps)
