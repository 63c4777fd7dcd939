-- `page_from`: that it keeps its contract.
use Rattle.std.proofs.Common.{arith}
use Rattle.erase_planner.proofs.marks.page_from.Goals as goal

pub returns-then-place-stop : goal.returns-then-place-stop
returns-then-place-stop c = c.requires.page (omega arith)
