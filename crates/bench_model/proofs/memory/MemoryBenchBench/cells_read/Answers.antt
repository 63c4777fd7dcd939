-- `cells_read`: that it keeps its contract.
use Rattle.std.proofs.Common.{arith}
use Rattle.std.proofs.lemmas.Grind.{common_steps}
use Rattle.bench_model.proofs.memory.MemoryBenchBench.cells_read.Goals as goal

pub returns-then-not-next_goes-clause-does : goal.returns-then-not-next_goes-clause-does
returns-then-not-next_goes-clause-does c = grind (arith, common_steps)

pub returns-clause-does : goal.returns-clause-does
returns-clause-does c = grind (arith, common_steps)

pub returns-clause-acts : goal.returns-clause-acts
returns-clause-acts c = grind (arith, common_steps)

pub returns-then-not-next_goes-clause-acts : goal.returns-then-not-next_goes-clause-acts
returns-then-not-next_goes-clause-acts c = grind (arith, common_steps)

pub copy_from_slice-requires : goal.copy_from_slice-requires
copy_from_slice-requires c = grind (arith, common_steps)
