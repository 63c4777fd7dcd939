-- `fits`: its clauses.
use Rattle.std.proofs.lemmas.Grind.{common_steps}
use Rattle.std.proofs.Common.{arith}
use Rattle.demo_job.proofs.scene.fits.Goals as goal

pub returns-then-device-len-clause-suits : goal.returns-then-device-len-clause-suits
returns-then-device-len-clause-suits c = grind (arith, common_steps)

pub returns-else-device-len-clause-base : goal.returns-else-device-len-clause-base
returns-else-device-len-clause-base c = grind (arith, common_steps)

pub returns-else-device-len-clause-suits : goal.returns-else-device-len-clause-suits
returns-else-device-len-clause-suits c = grind (arith, common_steps)

pub returns-else-device-len-clause-size : goal.returns-else-device-len-clause-size
returns-else-device-len-clause-size c = grind (arith, common_steps)

pub returns-then-device-len-clause-size : goal.returns-then-device-len-clause-size
returns-then-device-len-clause-size c = grind (arith, common_steps)
