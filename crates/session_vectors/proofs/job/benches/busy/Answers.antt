-- `busy`: what `cells_open` requires.
use Rattle.std.proofs.Common.{arith}
use Rattle.std.proofs.lemmas.Grind.{common_steps}
use Rattle.session_vectors.proofs.job.benches.busy.Goals as goal

pub cells_open-requires-clause-range : goal.cells_open-requires-clause-range
cells_open-requires-clause-range c = grind (arith, common_steps)
