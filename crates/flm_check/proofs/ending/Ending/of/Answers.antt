-- `Ending::of`: that it keeps its contract.
use Rattle.std.proofs.Common.{arith}
use Rattle.std.proofs.lemmas.Grind.{common_steps}
use Rattle.flm_check.proofs.ending.Ending.of.Goals as goal

pub returns-in-Proved : goal.returns-in-Proved
returns-in-Proved c = grind (arith, common_steps)

pub returns-in-Broken : goal.returns-in-Broken
returns-in-Broken c = rw c.in-Broken.is (c.args.is_inside, c.duty_of.ensures)
