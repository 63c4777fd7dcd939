-- `are_few`: that it keeps its contract.
use Rattle.std.proofs.Common.{arith}
use Rattle.std.proofs.lemmas.Grind.{common_steps}
use Rattle.command_words.proofs.fit.are_few.Goals as goal

pub returns-then-images-gt0 : goal.returns-then-images-gt0
returns-then-images-gt0 c = grind (arith, common_steps)

pub returns-else-images-gt0 : goal.returns-else-images-gt0
returns-else-images-gt0 c = grind (arith, common_steps)

pub returns-in-Some : goal.returns-in-Some
returns-in-Some c = grind (arith, common_steps)
