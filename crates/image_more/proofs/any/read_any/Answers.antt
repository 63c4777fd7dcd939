-- `read_any`: that it keeps its contract.
use Rattle.std.proofs.Common.{arith}
use Rattle.std.proofs.lemmas.Grind.{common_steps}
use Rattle.image_more.proofs.any.read_any.Goals as goal

pub returns-in-Ok-read_image-clause-ok : goal.returns-in-Ok-read_image-clause-ok
returns-in-Ok-read_image-clause-ok c = grind (arith, common_steps)

pub returns-in-Ok-clause-ok : goal.returns-in-Ok-clause-ok
returns-in-Ok-clause-ok c = grind (arith, common_steps)

pub returns-in-Err : goal.returns-in-Err
returns-in-Err c = grind (arith, common_steps)

pub returns-in-Err-read_image : goal.returns-in-Err-read_image
returns-in-Err-read_image c = grind (arith, common_steps)
