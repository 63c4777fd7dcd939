-- `open`: that it keeps its contract.
use Rattle.std.proofs.Common.{arith}
use Rattle.std.proofs.lemmas.Grind.{common_steps}
use Rattle.stream_files.proofs.memory_source.MemorySourceSource.open.Goals as goal

pub returns-else-eq-clause-fails : goal.returns-else-eq-clause-fails
returns-else-eq-clause-fails c = grind (arith, common_steps)

pub returns-then-eq-clause-fails : goal.returns-then-eq-clause-fails
returns-then-eq-clause-fails c = grind (arith, common_steps)
