-- `pick_cells`: that it keeps its contract.
use Rattle.std.proofs.Common.{arith}
use Rattle.std.proofs.lemmas.Grind.{common_steps}
use Rattle.bench_model.proofs.memory.pick_cells.Goals as goal

pub returns-in-Filled-Some-clause-bytes : goal.returns-in-Filled-Some-clause-bytes
returns-in-Filled-Some-clause-bytes c = grind (arith, common_steps)

pub returns-clause-bytes : goal.returns-clause-bytes
returns-clause-bytes c = grind (arith, common_steps)
