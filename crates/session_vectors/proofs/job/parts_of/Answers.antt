-- `parts_of`: that it keeps its contract.
use Rattle.std.proofs.Common.{arith}
use Rattle.std.proofs.lemmas.Grind.{common_steps}
use Rattle.session_vectors.proofs.job.parts_of.Goals as goal

pub returns-2 : goal.returns-2
returns-2 c = grind (arith, common_steps)
