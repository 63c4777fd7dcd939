-- `close`: that it keeps its contract.
use Rattle.std.proofs.Common.{arith}
use Rattle.std.proofs.lemmas.Grind.{common_steps}
use Rattle.job_file.proofs.close_call.close.Goals as goal

pub returns-clause-ok : goal.returns-clause-ok
returns-clause-ok g c = c.in_ok-write_synced.ensures.ok

pub returns-clause-moments : goal.returns-clause-moments
returns-clause-moments g c = grind (arith, common_steps)
