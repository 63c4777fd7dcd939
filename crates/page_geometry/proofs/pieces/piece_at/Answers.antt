-- `piece_at`: its clause `order`, and that no number overflows.
use Rattle.flm_descriptor.proofs.CutLemmas.{pieces_below}
use Rattle.std.proofs.Common.{arith}
use Rattle.page_geometry.proofs.pieces.piece_at.Goals as goal

pub overflow_mul-place : goal.overflow_mul-place
overflow_mul-place c = let below = pieces_below _ _ _ _ c.requires.step_some c.requires.index_below in omega (arith, below)

pub overflow_add-place : goal.overflow_add-place
overflow_add-place c = let below = pieces_below _ _ _ _ c.requires.step_some c.requires.index_below in omega (arith, below)

pub overflow_sub-stop : goal.overflow_sub-stop
overflow_sub-stop c = let below = pieces_below _ _ _ _ c.requires.step_some c.requires.index_below in omega (arith, below)

pub returns-then-stop-place-clause-order : goal.returns-then-stop-place-clause-order
returns-then-stop-place-clause-order c = let below = pieces_below _ _ _ _ c.requires.step_some c.requires.index_below in omega (arith, below)
