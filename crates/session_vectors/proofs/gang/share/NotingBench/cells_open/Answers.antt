-- `cells_open`: that it keeps its contract.
use Rattle.std.proofs.Common.{arith}
use Rattle.std.proofs.lemmas.Grind.{common_steps}
use Rattle.session_vectors.proofs.gang.share.NotingBench.cells_open.Goals as goal

pub returns-clause-does : goal.returns-clause-does
returns-clause-does g c = grind (arith, common_steps)
