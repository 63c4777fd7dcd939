-- `verdict_of`: its contract.
use Rattle.std.proofs.Common.{arith}
use Rattle.std.proofs.lemmas.Grind.{common_steps}
use Rattle.duty_rounds.proofs.trial.verdict_of.Goals as goal

pub returns-in-Broken : goal.returns-in-Broken
returns-in-Broken c = grind (arith, common_steps)
