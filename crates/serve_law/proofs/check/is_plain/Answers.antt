-- `is_plain`: that it keeps its contract if the controller is FC1.
use Rattle.std.proofs.Common.{arith}
use Rattle.std.proofs.lemmas.Grind.{common_steps}
use Rattle.serve_law.proofs.check.is_plain.Goals as goal

pub returns-then-matches : goal.returns-then-matches
returns-then-matches c = grind (arith, common_steps)
