-- `go_through`: what `follow` requires.
use Rattle.std.proofs.Common.{arith}
use Rattle.std.proofs.lemmas.Grind.{common_steps}
use Rattle.session_vectors.proofs.job.go_through.Goals as goal

pub follow-requires : goal.follow-requires
follow-requires c = grind (arith, common_steps)
