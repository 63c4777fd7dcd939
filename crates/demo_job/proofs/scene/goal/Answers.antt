-- `goal`: that the image is laid over the cells.
use Rattle.std.proofs.lemmas.Grind.{common_steps}
use Rattle.std.proofs.Common.{arith}
use Rattle.demo_job.proofs.scene.goal.Goals as goal

pub returns : goal.returns
returns c = grind (arith, common_steps)
