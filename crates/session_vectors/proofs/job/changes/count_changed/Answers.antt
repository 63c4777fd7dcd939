-- `count_changed`: that its places are places of the file.
use Rattle.std.proofs.Common.{arith}
use Rattle.std.proofs.lemmas.Grind.{common_steps}
use Rattle.session_vectors.proofs.job.changes.count_changed.Goals as goal

pub bounds-file-at-in-loop-at-3 : goal.bounds-file-at-in-loop-at-3
bounds-file-at-in-loop-at-3 c = grind (arith, common_steps)

pub bounds-file-at-in-loop-at-2 : goal.bounds-file-at-in-loop-at-2
bounds-file-at-in-loop-at-2 c = grind (arith, common_steps)
