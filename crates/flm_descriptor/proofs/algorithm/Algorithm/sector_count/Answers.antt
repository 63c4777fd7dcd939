-- `sector_count`: what `count_sectors` requires.
use Rattle.std.proofs.Common.{arith}
use Rattle.std.proofs.lemmas.Grind.{common_steps}
use Rattle.flm_descriptor.proofs.algorithm.Algorithm.sector_count.Goals as goal

pub count_sectors-requires-clause-steps : goal.count_sectors-requires-clause-steps
count_sectors-requires-clause-steps c = grind (arith, common_steps)
