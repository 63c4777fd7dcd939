-- `blx`: that it keeps its contract.
use Rattle.std.proofs.Common.{arith}
use Rattle.armv6m_decode.specs.Table.{rows}
use Rattle.armv6m_decode.proofs.Masks.{masks}
use Rattle.armv6m_decode.proofs.Near.{exchange}
use Rattle.armv6m_encode.proofs.branch.blx.Goals as goal

pub returns : goal.returns
unfolding rows
returns c = grind (arith, exchange, masks)
