-- `are_quiet_too_big`: that it keeps its contract.
use Rattle.std.proofs.Common.{arith}
use Rattle.std.proofs.lemmas.Grind.{common_steps}
use Rattle.board_file.proofs.limits.are_quiet_too_big.Goals as goal

pub returns-else-written-gt-MOST_QUIET : goal.returns-else-written-gt-MOST_QUIET
returns-else-written-gt-MOST_QUIET c = grind (arith, common_steps)

pub returns-then-written-gt-MOST_QUIET : goal.returns-then-written-gt-MOST_QUIET
returns-then-written-gt-MOST_QUIET c = grind (arith, common_steps)
