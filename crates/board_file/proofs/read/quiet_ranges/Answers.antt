-- `quiet_ranges`: that it keeps its contract.
use Rattle.std.proofs.Common.{arith}
use Rattle.std.proofs.lemmas.Grind.{common_steps}
use Rattle.board_file.proofs.read.quiet_ranges.Goals as goal

pub tables-preserved : goal.tables-preserved
tables-preserved c = grind (arith, common_steps)

pub returns-in_err-one : goal.returns-in_err-one
returns-in_err-one c = grind (arith, common_steps)

pub returns : goal.returns
returns c = grind (arith, common_steps)
