-- `CoreMarks::store_from`: a store at an address that is known.
use Rattle.std.proofs.Common.{arith}
use Rattle.std.proofs.lemmas.Bool.Decides.{nat_tests}
use Rattle.std.proofs.lemmas.Grind.{common_steps}
use Rattle.shadow_step.proofs.marks.CoreMarks.store_from.Goals as goal

pub returns : goal.returns
returns g c = grind (arith, nat_tests, common_steps)
