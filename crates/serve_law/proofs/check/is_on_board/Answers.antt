-- `is_on_board`: what `is_on` requires.
use Rattle.std.proofs.Common.{arith}
use Rattle.std.proofs.lemmas.Grind.{common_steps}
use Rattle.serve_law.proofs.check.is_on_board.Goals as goal

pub is_on-requires : goal.is_on-requires
is_on-requires c = grind (arith, common_steps)
