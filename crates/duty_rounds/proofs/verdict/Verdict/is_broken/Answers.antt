-- `Verdict::is_broken`: its contract.
use Rattle.std.proofs.Common.{arith}
use Rattle.std.proofs.lemmas.Grind.{common_steps}
use Rattle.duty_rounds.proofs.verdict.Verdict.is_broken.Goals as goal

pub returns-in-Broken : goal.returns-in-Broken
returns-in-Broken c = grind (arith, common_steps)

pub returns-in_default : goal.returns-in_default
returns-in_default c = grind (arith, common_steps)
