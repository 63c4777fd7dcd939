-- `parse`: that it keeps its contract.
use Rattle.std.proofs.Common.{arith}
use Rattle.std.proofs.lemmas.Grind.{common_steps}
use Rattle.image_srec.proofs.record.parse.Goals as goal

pub returns-in-83 : goal.returns-in-83
returns-in-83 c = grind (arith, common_steps)
