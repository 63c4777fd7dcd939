-- `+get`: that it keeps its contract.
use Rattle.std.proofs.Common.{arith}
use Rattle.std.proofs.lemmas.Grind.{common_steps}
use Rattle.byte_map.proofs.Sides.{sides}
use Rattle.byte_map.proofs.tree.+get.Goals as goal

pub get-requires-else-index-before-2 : goal.get-requires-else-index-before-2
get-requires-else-index-before-2 t c = grind (arith, sides)

pub returns-else-index-before-2 : goal.returns-else-index-before-2
returns-else-index-before-2 t c = grind (arith, common_steps)

pub returns-then-index-before-2 : goal.returns-then-index-before-2
returns-then-index-before-2 t c = grind (arith, common_steps)

pub returns-then-index-before : goal.returns-then-index-before
returns-then-index-before t c = grind (arith, common_steps)
