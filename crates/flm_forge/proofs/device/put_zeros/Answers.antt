-- `put_zeros`: that its loop keeps its invariant.
use Rattle.std.proofs.Common.{arith}
use Rattle.std.proofs.lemmas.Grind.{common_steps}
use Rattle.flm_forge.proofs.device.put_zeros.Goals as goal

pub loop-place-preserved : goal.loop-place-preserved
loop-place-preserved c = grind (arith, common_steps)
