-- `reach`: that its loop keeps its invariant.
use Rattle.std.proofs.Common.{arith}
use Rattle.std.proofs.lemmas.Grind.{common_steps}
use Rattle.job_text.proofs.fit.reach.Goals as goal

pub regions-preserved : goal.regions-preserved
regions-preserved c = grind (arith, common_steps)

pub returns-then-holds : goal.returns-then-holds
returns-then-holds c = grind (arith, common_steps)
