-- `take_contents`: that it keeps its contract.
use Rattle.std.proofs.Common.{arith}
use Rattle.std.proofs.lemmas.Grind.{common_steps}
use Rattle.flm_descriptor.proofs.parts.take_contents.Goals as goal

pub returns-clause-long : goal.returns-clause-long
returns-clause-long c = grind (arith, common_steps)
