-- `regions`: that it keeps its contract.
use Rattle.std.proofs.Common.{arith}
use Rattle.std.proofs.lemmas.Grind.{common_steps}
use Rattle.board_file.proofs.read.regions.Goals as goal

pub tables-preserved : goal.tables-preserved
tables-preserved c = grind (arith, common_steps)

pub returns-in_err-one-clause-said : goal.returns-in_err-one-clause-said
returns-in_err-one-clause-said c = grind (arith, common_steps)

pub returns-clause-said : goal.returns-clause-said
returns-clause-said c = grind (arith, common_steps)
