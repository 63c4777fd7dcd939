-- `le16`: that it keeps its contract.
use Rattle.std.proofs.Common.{arith}
use Rattle.std.proofs.lemmas.Grind.{common_steps}
use Rattle.octets.proofs.field.le16.Goals as goal

pub returns : goal.returns
returns c = grind (arith, common_steps)
