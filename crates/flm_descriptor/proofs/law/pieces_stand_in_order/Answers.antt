-- `pieces_stand_in_order`: its contract, `AreCut`.
use Rattle.flm_descriptor.proofs.Laws.{are_cut}
use Rattle.flm_descriptor.proofs.law.pieces_stand_in_order.Goals as goal

pub returns : goal.returns
returns c = are_cut
