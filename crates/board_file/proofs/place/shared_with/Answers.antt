-- `shared_with`: that it keeps its contract, and that its loop keeps its invariant.
use Rattle.std.proofs.Common.{arith}
use Rattle.std.proofs.lemmas.Grind.{common_steps}
use Rattle.board_file.proofs.place.shared_with.Goals as goal

pub returns : goal.returns
returns c = grind (arith, common_steps)

pub others-preserved : goal.others-preserved
others-preserved c = grind (arith, common_steps)

pub returns-then-share : goal.returns-then-share
returns-then-share c = grind (arith, common_steps)
