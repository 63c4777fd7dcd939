-- `number_in`: that it keeps its contract, and that no number overflows.
use Rattle.std.proofs.Common.{arith}
use Rattle.std.proofs.lemmas.Grind.{common_steps}
use Rattle.board_file.proofs.rows.number_in.Goals as goal

pub returns-then-number-range-eq0 : goal.returns-then-number-range-eq0
returns-then-number-range-eq0 c = grind (arith, common_steps)

pub nonzero_rem-number : goal.nonzero_rem-number
nonzero_rem-number c = grind (arith, common_steps)
