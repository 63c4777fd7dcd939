-- `are_short`: that it keeps its contract.
use Rattle.std.proofs.Common.{arith}
use Rattle.std.proofs.lemmas.Grind.{common_steps}
use Rattle.session_vectors.proofs.job.are_short.Goals as goal

pub returns-then-flm-le65535-clause-second : goal.returns-then-flm-le65535-clause-second
returns-then-flm-le65535-clause-second c = grind (arith, common_steps)

pub returns-else-flm-le65535-clause-second : goal.returns-else-flm-le65535-clause-second
returns-else-flm-le65535-clause-second c = grind (arith, common_steps)

pub returns-else-flm-le65535-clause-first : goal.returns-else-flm-le65535-clause-first
returns-else-flm-le65535-clause-first c = grind (arith, common_steps)
