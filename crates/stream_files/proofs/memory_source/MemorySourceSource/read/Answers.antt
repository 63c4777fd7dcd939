-- `read`: that it keeps its contract.
use Rattle.std.proofs.Common.{arith}
use Rattle.std.proofs.lemmas.Grind.{common_steps}
use Rattle.stream_files.proofs.memory_source.MemorySourceSource.read.Goals as goal

pub returns-clause-reads : goal.returns-clause-reads
returns-clause-reads c = grind (arith, common_steps)

pub returns-then-self-gt0-clause-fails : goal.returns-then-self-gt0-clause-fails
returns-then-self-gt0-clause-fails c = grind (arith, common_steps)

pub copy_from_slice-requires : goal.copy_from_slice-requires
copy_from_slice-requires c = grind (arith, common_steps)
