-- `Mark::is_same_part`: parts of one width are the same if they begin at the same byte.
use Rattle.std.proofs.Common.{arith}
use Rattle.std.proofs.lemmas.Bool.Decides.{nat_tests}
use Rattle.std.proofs.lemmas.Grind.{common_steps}
use Rattle.shadow_step.proofs.marks.Mark.is_same_part.Goals as goal

pub returns-then-width-wide : goal.returns-then-width-wide
returns-then-width-wide c = grind (arith, nat_tests, common_steps)
