-- `suits`: that it keeps its contract.
use Rattle.std.proofs.Common.{arith}
use Rattle.std.proofs.lemmas.Grind.{common_steps}
use Rattle.job_text.proofs.fit.suits.Goals as goal

pub returns-then-runs-gt0 : goal.returns-then-runs-gt0
returns-then-runs-gt0 c = grind (arith, common_steps)

pub returns-else-runs-gt0 : goal.returns-else-runs-gt0
returns-else-runs-gt0 c = grind (arith, common_steps)

pub lies_in-requires : goal.lies_in-requires
lies_in-requires c = grind (arith, common_steps)
