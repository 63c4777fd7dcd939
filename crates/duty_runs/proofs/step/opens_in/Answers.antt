-- `opens_in`: an operation that begins and ends in the place.
use Rattle.std.proofs.Common.{arith}
use Rattle.std.proofs.lemmas.Bool.Decides.{nat_tests}
use Rattle.std.proofs.lemmas.Grind.{common_steps}
use Rattle.duty_runs.proofs.step.opens_in.Goals as goal

pub returns-then-at-from : goal.returns-then-at-from
returns-then-at-from c = λ is. grind (arith, nat_tests, common_steps)
