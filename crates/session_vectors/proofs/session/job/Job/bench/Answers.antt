-- `bench`: what `new` requires, and that its slice has an end.
use Rattle.std.proofs.Common.{arith}
use Rattle.std.proofs.lemmas.Grind.{common_steps}
use Rattle.session_vectors.proofs.session.job.Job.bench.Goals as goal

pub new-requires : goal.new-requires
new-requires c = grind (arith, common_steps)

pub slice_bounds-new-end : goal.slice_bounds-new-end
slice_bounds-new-end c = grind (arith, common_steps)
