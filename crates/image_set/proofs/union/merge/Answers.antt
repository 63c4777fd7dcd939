-- `merge`: that it keeps its contract.
use Rattle.std.proofs.Common.{arith}
use Rattle.std.proofs.lemmas.Grind.{common_steps}
use Rattle.image_set.proofs.union.merge.Goals as goal

pub returns-then-runs-eq0-clause-ok : goal.returns-then-runs-eq0-clause-ok
returns-then-runs-eq0-clause-ok c = grind (arith, common_steps)
