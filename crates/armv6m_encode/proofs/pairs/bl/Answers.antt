-- `bl`: that it keeps its contract.
use Rattle.std.proofs.Common.{arith}
use Rattle.armv6m_decode.specs.Table.{pair_rows, decoded_pair}
use Rattle.armv6m_decode.proofs.Masks.{pair_masks}
use Rattle.armv6m_decode.proofs.TableLemmas.{begins_pair}
use Rattle.armv6m_encode.proofs.pairs.bl.Goals as goal

pub returns : goal.returns
unfolding pair_rows decoded_pair
returns c = grind (arith, pair_masks, begins_pair)
