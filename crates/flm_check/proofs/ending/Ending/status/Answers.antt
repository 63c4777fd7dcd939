-- `Ending::status`: that it keeps its contract.
use Rattle.std.proofs.Common.{refl}
use Rattle.flm_check.proofs.ending.Ending.status.Goals as goal

pub returns-in-Broken : goal.returns-in-Broken
returns-in-Broken c = rw c.in-Broken.is refl
