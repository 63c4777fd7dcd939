-- `end_early`: that it keeps its contract, and that its loop keeps its invariant.
use Rattle.std.proofs.Common.{arith}
use Rattle.std.proofs.lemmas.Grind.{common_steps}
use Rattle.board_file.proofs.limits.end_early.Goals as goal

pub returns-then-from-one-gt-ADDRESSES : goal.returns-then-from-one-gt-ADDRESSES
returns-then-from-one-gt-ADDRESSES c = grind (arith, common_steps)

pub returns : goal.returns
returns c = grind (arith, common_steps)

pub written-preserved : goal.written-preserved
written-preserved c = grind (arith, common_steps)
