-- `choose`: its contract.
use Rattle.std.proofs.Common.{arith}
use Rattle.std.proofs.lemmas.Grind.{common_steps}
use Rattle.duty_rounds.proofs.choice.choose.Goals as goal

pub returns : goal.returns
returns c = grind (arith, common_steps)
