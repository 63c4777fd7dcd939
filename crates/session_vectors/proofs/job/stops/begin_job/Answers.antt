-- `begin_job`: what `close` requires.
use Rattle.std.proofs.Common.{arith}
use Rattle.std.proofs.lemmas.Grind.{common_steps}
use Rattle.session_vectors.proofs.job.stops.begin_job.Goals as goal

pub close-requires-clause-whole : goal.close-requires-clause-whole
close-requires-clause-whole g c = grind (arith, common_steps)

pub close-requires-clause-only : goal.close-requires-clause-only
close-requires-clause-only g c = grind (arith, common_steps)
