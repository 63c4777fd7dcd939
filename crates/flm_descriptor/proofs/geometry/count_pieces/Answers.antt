-- `count_pieces`: the value that it answers.
use Rattle.flm_descriptor.proofs.RunLemmas.{pieces_none, pieces_counted}
use Rattle.std.proofs.Common.{arith}
use Rattle.flm_descriptor.proofs.geometry.count_pieces.Goals as goal

pub returns-then-stop-start : goal.returns-then-stop-start
returns-then-stop-start c = pieces_none _ _ _ c.requires (omega arith)

pub returns-else-stop-start : goal.returns-else-stop-start
returns-else-stop-start c = pieces_counted _ _ _ c.requires (omega arith)
