-- `cells_read`: that it keeps its contract.
use Rattle.std.proofs.Common.{arith}
use Rattle.std.proofs.lemmas.Grind.{common_steps}
use Rattle.disk_files.proofs.disk_bench.DiskBenchBench.cells_read.Goals as goal

pub returns-clause-does : goal.returns-clause-does
returns-clause-does g c = grind (arith, common_steps)

pub returns-then-cells_at_hand-clause-does : goal.returns-then-cells_at_hand-clause-does
returns-then-cells_at_hand-clause-does g c = grind (arith, common_steps)

pub returns-then-cells_at_hand-clause-acts : goal.returns-then-cells_at_hand-clause-acts
returns-then-cells_at_hand-clause-acts g c = grind (arith, common_steps)
