-- `pick_file`: that it keeps its contract.
use Rattle.std.proofs.Common.{arith}
use Rattle.std.proofs.lemmas.Grind.{common_steps}
use Rattle.bench_model.proofs.memory.pick_file.Goals as goal

pub returns-in-AsOld-clause-bytes : goal.returns-in-AsOld-clause-bytes
returns-in-AsOld-clause-bytes c = grind (arith, common_steps)

pub returns-in-Filled-clause-bytes : goal.returns-in-Filled-clause-bytes
returns-in-Filled-clause-bytes c = grind (arith, common_steps)

pub returns-in-AsOld-clause-items : goal.returns-in-AsOld-clause-items
returns-in-AsOld-clause-items c = grind (arith, common_steps)
