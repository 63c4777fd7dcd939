-- `check_device`: what its calls ask for.
use Rattle.std.proofs.Common.{arith}
use Rattle.std.proofs.lemmas.Grind.{common_steps}
use Rattle.flm_descriptor.proofs.checks.check_device.Goals as goal

pub count_pages-requires-clause-steps : goal.count_pages-requires-clause-steps
count_pages-requires-clause-steps c = grind (arith, common_steps)

pub count_sectors-requires-clause-steps : goal.count_sectors-requires-clause-steps
count_sectors-requires-clause-steps c = grind (arith, common_steps)
