-- `mark`: that it keeps its contract.
use Rattle.std.proofs.Common.{arith}
use Rattle.std.proofs.lemmas.Grind.{common_steps}
use Rattle.bench_model.proofs.lay.mark.Goals as goal

pub returns-then-to-len-clause-items : goal.returns-then-to-len-clause-items
returns-then-to-len-clause-items c = grind (arith, common_steps)

pub returns-else-to-len-clause-items : goal.returns-else-to-len-clause-items
returns-else-to-len-clause-items c = grind (arith, common_steps)
