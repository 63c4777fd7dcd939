-- `sector_in`: that it keeps its contract.
use Rattle.std.proofs.Common.{arith}
use Rattle.std.proofs.lemmas.Grind.{common_steps}
use Rattle.erase_planner.proofs.plan.Plan.sector_in.Goals as goal

pub returns-else-index-len : goal.returns-else-index-len
returns-else-index-len c = grind (arith, common_steps)
