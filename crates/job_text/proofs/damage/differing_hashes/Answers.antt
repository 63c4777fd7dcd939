-- `differing_hashes`: that it keeps its contract.
use Rattle.std.proofs.Common.{arith}
use Rattle.std.proofs.lemmas.Grind.{common_steps}
use Rattle.job_text.proofs.damage.differing_hashes.Goals as goal

pub returns-then-body-lt-HEAD_LEN : goal.returns-then-body-lt-HEAD_LEN
returns-then-body-lt-HEAD_LEN c = grind (arith, common_steps)

pub returns-else-are_same : goal.returns-else-are_same
returns-else-are_same c = grind (arith, common_steps)
