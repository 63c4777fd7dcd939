-- `take`: that it keeps its contract.
use Rattle.std.proofs.Common.{refl}
use Rattle.host_files.proofs.file_lock.FileLock.take.Goals as goal

pub returns-in-Ok-clause-took : goal.returns-in-Ok-clause-took
returns-in-Ok-clause-took c = refl
