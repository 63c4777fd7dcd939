-- `add_first`: that it keeps its contract.
use Rattle.std.proofs.Common.{arith}
use Rattle.std.proofs.lemmas.Grind.{common_steps}
use Rattle.outside_io.proofs.gathered.Gathered.add_first.Goals as goal

pub returns-then-is_ok : goal.returns-then-is_ok
returns-then-is_ok g c = grind (arith, common_steps)

pub returns : goal.returns
returns g c = grind (arith, common_steps)
