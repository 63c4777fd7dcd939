-- `cells_read`: that it keeps its contract.
use Rattle.std.proofs.Common.{arith}
use Rattle.std.proofs.lemmas.Grind.{common_steps}
use Rattle.bench_model.proofs.stop.StopBenchBench.cells_read.Goals as goal

pub returns-clause-does : goal.returns-clause-does
returns-clause-does g c = grind (arith, common_steps)

pub returns-then-self-eq0-clause-does : goal.returns-then-self-eq0-clause-does
returns-then-self-eq0-clause-does g c = grind (arith, common_steps)

pub returns-clause-acts : goal.returns-clause-acts
returns-clause-acts g c = grind (arith, common_steps)

pub returns-then-self-eq0-clause-acts : goal.returns-then-self-eq0-clause-acts
returns-then-self-eq0-clause-acts g c = grind (arith, common_steps)
