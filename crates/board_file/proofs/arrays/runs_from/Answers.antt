-- `runs_from`: that it keeps its contract.
use Rattle.std.proofs.Common.{arith}
use Rattle.std.proofs.lemmas.Grind.{common_steps}
use Rattle.board_file.proofs.arrays.runs_from.Goals as goal

pub values-preserved : goal.values-preserved
values-preserved c = grind (arith, common_steps)

pub returns-clause-said : goal.returns-clause-said
returns-clause-said c = grind (arith, common_steps)

pub returns-in-None-clause-said : goal.returns-in-None-clause-said
returns-in-None-clause-said c = grind (arith, common_steps)
