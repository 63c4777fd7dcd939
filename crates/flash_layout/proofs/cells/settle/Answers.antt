-- `settle`: that it keeps its contract.
use Rattle.std.proofs.Common.{arith}
use Rattle.std.proofs.lemmas.Grind.{common_steps}
use Rattle.flash_layout.proofs.cells.settle.Goals as goal

pub returns-in-Half-clause-bench : goal.returns-in-Half-clause-bench
returns-in-Half-clause-bench g c = grind (arith, common_steps)

pub returns-in-Half-clause-ok : goal.returns-in-Half-clause-ok
returns-in-Half-clause-ok g c = grind (arith, common_steps)

pub returns-in-Word-clause-ok : goal.returns-in-Word-clause-ok
returns-in-Word-clause-ok g c = grind (arith, common_steps)

pub returns-in-Word-clause-bench : goal.returns-in-Word-clause-bench
returns-in-Word-clause-bench g c = grind (arith, common_steps)

pub returns-in-Fill-clause-ok : goal.returns-in-Fill-clause-ok
returns-in-Fill-clause-ok g c = grind (arith, common_steps)

pub returns-in-Fill-clause-bench : goal.returns-in-Fill-clause-bench
returns-in-Fill-clause-bench g c = grind (arith, common_steps)
