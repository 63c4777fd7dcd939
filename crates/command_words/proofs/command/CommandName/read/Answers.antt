-- `read`: that it keeps its contract.
use Rattle.std.proofs.Common.{arith}
use Rattle.std.proofs.lemmas.Grind.{common_steps}
use Rattle.command_words.proofs.command.CommandName.read.Goals as goal

pub returns-in-demo-clause-some : goal.returns-in-demo-clause-some
returns-in-demo-clause-some c = grind (arith, common_steps)

pub returns-in_default-clause-none : goal.returns-in_default-clause-none
returns-in_default-clause-none c = grind (arith, common_steps)
