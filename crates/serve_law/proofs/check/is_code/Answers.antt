-- `is_code`: that it keeps its contract if all holds.
use Rattle.std.proofs.Common.{arith}
use Rattle.std.proofs.lemmas.Grind.{common_steps}
use Rattle.serve_law.proofs.check.is_code.Goals as goal

pub returns-then-algorithm-eq0 : goal.returns-then-algorithm-eq0
returns-then-algorithm-eq0 c = grind (arith, common_steps)
