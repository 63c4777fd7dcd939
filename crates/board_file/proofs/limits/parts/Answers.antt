-- `parts`: that it keeps its contract.
use Rattle.std.proofs.Common.{arith}
use Rattle.std.proofs.lemmas.Grind.{common_steps}
use Rattle.board_file.proofs.limits.parts.Goals as goal

pub returns : goal.returns
returns c = grind (arith, common_steps)

pub regions-preserved : goal.regions-preserved
regions-preserved c = grind (arith, common_steps)
