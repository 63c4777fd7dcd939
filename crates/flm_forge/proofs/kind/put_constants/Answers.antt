-- `put_constants`: that it keeps its contract.
use Rattle.std.proofs.Common.{arith}
use Rattle.std.proofs.lemmas.Grind.{common_steps}
use Rattle.flm_forge.proofs.kind.put_constants.Goals as goal

pub returns : goal.returns
returns c = grind (arith, common_steps)
