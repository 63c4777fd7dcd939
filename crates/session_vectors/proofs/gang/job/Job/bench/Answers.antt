-- `bench`: what `new` requires.
use Rattle.std.proofs.Common.{arith}
use Rattle.std.proofs.lemmas.Grind.{common_steps}
use Rattle.session_vectors.proofs.gang.job.Job.bench.Goals as goal

pub new-requires : goal.new-requires
new-requires c = grind (arith, common_steps)
