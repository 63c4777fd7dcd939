-- `is_quick`: that it keeps its contract if the pages are quick.
use Rattle.std.proofs.Common.{arith}
use Rattle.std.proofs.lemmas.Grind.{common_steps}
use Rattle.serve_law.proofs.check.is_quick.Goals as goal

pub returns-then-from-steps-2 : goal.returns-then-from-steps-2
returns-then-from-steps-2 c = grind (arith, common_steps)
