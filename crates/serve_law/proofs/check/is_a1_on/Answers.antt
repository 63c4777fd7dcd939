-- `is_a1_on`: that it keeps its contract.
use Rattle.std.proofs.Common.{arith}
use Rattle.std.proofs.lemmas.Grind.{common_steps}
use Rattle.serve_law.proofs.check.is_a1_on.Goals as goal

pub returns-then-has_room : goal.returns-then-has_room
returns-then-has_room c = grind (arith, common_steps)

pub returns-else-has_room : goal.returns-else-has_room
returns-else-has_room c = grind (arith, common_steps)
