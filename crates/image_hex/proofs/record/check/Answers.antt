-- `check`: that it keeps its contract.
use Rattle.std.proofs.Common.{arith, rules}
use Rattle.std.proofs.lemmas.Grind.{common_steps}
use Rattle.image_hex.proofs.record.check.Goals as goal

pub returns : goal.returns
returns c = grind (arith, common_steps)

pub returns-then-said-due : goal.returns-then-said-due
returns-then-said-due c = first_of (search rules, grind (arith, common_steps))
