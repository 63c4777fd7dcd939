-- `read_flm`: what `algorithm` requires.
use Rattle.std.proofs.Common.{arith}
use Rattle.std.proofs.lemmas.Grind.{common_steps}
use Rattle.flm_descriptor.proofs.read.read_flm.Goals as goal

pub algorithm-requires : goal.algorithm-requires
algorithm-requires c = grind (arith, common_steps)
