-- `place`: that it keeps its contract.
use Rattle.std.proofs.Common.{arith}
use Rattle.std.proofs.lemmas.Grind.{common_steps}
use Rattle.algo_loader.proofs.layout.place.Goals as goal

pub returns-clause-exact : goal.returns-clause-exact
returns-clause-exact c = grind (arith, common_steps)

pub returns-then-need-have-clause-exact : goal.returns-then-need-have-clause-exact
returns-then-need-have-clause-exact c = grind (arith, common_steps)
