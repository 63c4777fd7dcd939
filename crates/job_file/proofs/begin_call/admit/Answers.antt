-- `admit`: its clauses `free` and `sized`.
use Rattle.std.proofs.Common.{arith}
use Rattle.std.proofs.lemmas.Grind.{common_steps}
use Rattle.job_file.proofs.begin_call.admit.Goals as goal

pub returns-clause-free : goal.returns-clause-free
returns-clause-free c = grind (arith, common_steps)

pub returns-clause-sized : goal.returns-clause-sized
returns-clause-sized c = grind (arith, common_steps)
