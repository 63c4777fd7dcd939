-- `Ask::is_left`: a cell that holds a byte of the page.
use Rattle.std.proofs.Common.{arith}
use Rattle.std.proofs.lemmas.Bool.Decides.{nat_tests}
use Rattle.std.proofs.lemmas.Grind.{common_steps}
use Rattle.duty_runs.proofs.ask.Ask.is_left.Goals as goal

pub returns-then-width-eq1 : goal.returns-then-width-eq1
returns-then-width-eq1 c = λ is. grind (arith, nat_tests, common_steps)
