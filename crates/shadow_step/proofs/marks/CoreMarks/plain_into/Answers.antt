-- `CoreMarks::plain_into`: a move into the PC.
use Rattle.std.proofs.Common.{arith}
use Rattle.std.proofs.lemmas.Bool.Decides.{nat_tests}
use Rattle.std.proofs.lemmas.Grind.{common_steps}
use Rattle.shadow_step.proofs.marks.CoreMarks.plain_into.Goals as goal

pub returns-then-d-eq-PC : goal.returns-then-d-eq-PC
returns-then-d-eq-PC c = grind (arith, nat_tests, common_steps)
