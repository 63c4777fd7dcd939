-- `cells_in`: that no number overflows.
use Rattle.std.proofs.Common.{arith}
use Rattle.std.proofs.lemmas.Grind.{common_steps}
use Rattle.job_text.proofs.job.cells_in.Goals as goal

pub overflow_add-cells : goal.overflow_add-cells
overflow_add-cells c = grind (arith, common_steps)

pub regions-preserved : goal.regions-preserved
regions-preserved c = grind (arith, common_steps)

pub returns : goal.returns
returns c = grind (arith, common_steps)
