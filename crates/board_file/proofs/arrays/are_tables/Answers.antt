-- `are_tables`: that it keeps its contract, and that its loop keeps its invariant.
use Rattle.std.proofs.Common.{arith}
use Rattle.std.proofs.lemmas.Grind.{common_steps}
use Rattle.board_file.proofs.arrays.are_tables.Goals as goal

pub values-preserved : goal.values-preserved
values-preserved c = grind (arith, common_steps)

pub returns : goal.returns
returns c = grind (arith, common_steps)

pub returns-then-not-is_table : goal.returns-then-not-is_table
returns-then-not-is_table c = grind (arith, common_steps)
