-- `file_len`: that it keeps its contract.
use Rattle.std.proofs.Common.{arith}
use Rattle.std.proofs.lemmas.Grind.{common_steps}
use Rattle.bench_model.proofs.memory.MemoryBenchBench.file_len.Goals as goal

pub returns-then-not-next_goes-clause-does : goal.returns-then-not-next_goes-clause-does
returns-then-not-next_goes-clause-does c = grind (arith, common_steps)

pub returns-clause-does : goal.returns-clause-does
returns-clause-does c = grind (arith, common_steps)

pub returns-then-not-next_goes-clause-acts : goal.returns-then-not-next_goes-clause-acts
returns-then-not-next_goes-clause-acts c = grind (arith, common_steps)
