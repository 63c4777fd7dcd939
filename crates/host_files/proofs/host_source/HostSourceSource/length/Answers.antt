-- `length`: that it keeps its contract.
use Rattle.std.proofs.Common.{arith}
use Rattle.std.proofs.lemmas.Grind.{common_steps}
use Rattle.host_files.proofs.host_source.HostSourceSource.length.Goals as goal

pub returns-in_ok-metadata-in-Some-clause-fails : goal.returns-in_ok-metadata-in-Some-clause-fails
returns-in_ok-metadata-in-Some-clause-fails c = grind (arith, common_steps)
