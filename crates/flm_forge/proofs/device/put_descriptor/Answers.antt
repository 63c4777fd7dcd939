-- `put_descriptor`: its clause `bytes`.
use Rattle.std.proofs.Common.{arith}
use Rattle.std.proofs.lemmas.Grind.{common_steps}
use Rattle.flm_forge.specs.Device.{descriptor_bytes}
use Rattle.flm_forge.proofs.device.put_descriptor.Goals as goal

pub returns-clause-bytes : goal.returns-clause-bytes
unfolding descriptor_bytes
returns-clause-bytes c = grind (arith, common_steps)
