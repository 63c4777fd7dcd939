-- `write`: that it keeps its contract.
use Rattle.std.proofs.Common.{arith}
use Rattle.std.proofs.lemmas.Grind.{common_steps}
use Rattle.stream_files.proofs.memory_stream.MemoryStreamStream.write.Goals as goal

pub returns-in-Err-clause-fails : goal.returns-in-Err-clause-fails
returns-in-Err-clause-fails c = grind (arith, common_steps)

pub returns-then-not-is_empty-clause-fails : goal.returns-then-not-is_empty-clause-fails
returns-then-not-is_empty-clause-fails c = grind (arith, common_steps)

pub returns-in-Ok-clause-fails : goal.returns-in-Ok-clause-fails
returns-in-Ok-clause-fails c = grind (arith, common_steps)

pub returns-then-self-gt0-clause-fails : goal.returns-then-self-gt0-clause-fails
returns-then-self-gt0-clause-fails c = grind (arith, common_steps)
