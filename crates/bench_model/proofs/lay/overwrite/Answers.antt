-- `overwrite`: that it keeps its contract.
use Rattle.std.proofs.Common.{arith}
use Rattle.std.proofs.lemmas.Grind.{common_steps}
use Rattle.bench_model.proofs.lay.overwrite.Goals as goal

pub returns-then-bytes-len-clause-items : goal.returns-then-bytes-len-clause-items
returns-then-bytes-len-clause-items c = grind (arith, common_steps)

pub returns-else-bytes-len-clause-items : goal.returns-else-bytes-len-clause-items
returns-else-bytes-len-clause-items c = grind (arith, common_steps)

pub returns-else-bytes-len-clause-bytes : goal.returns-else-bytes-len-clause-bytes
returns-else-bytes-len-clause-bytes c = grind (arith, common_steps)

pub returns-then-bytes-len-clause-bytes : goal.returns-then-bytes-len-clause-bytes
returns-then-bytes-len-clause-bytes c = grind (arith, common_steps)
