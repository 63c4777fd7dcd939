-- `comes_first`: that it keeps its contract.
use Rattle.std.proofs.Common.{arith}
use Rattle.std.proofs.lemmas.Grind.{common_steps}
use Rattle.image_set.proofs.union.comes_first.Goals as goal

pub returns-then-new-runs-clause-new : goal.returns-then-new-runs-clause-new
returns-then-new-runs-clause-new c = grind (arith, common_steps)
