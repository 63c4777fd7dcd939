-- `exchange`: that it keeps its contract.
use Rattle.std.proofs.Common.{arith}
use Rattle.armv6m_decode.specs.Table.{rows}
use Rattle.armv6m_decode.proofs.Near.{exchange}
use Rattle.armv6m_decode.proofs.Masks.{masks}
use Rattle.armv6m_decode.proofs.data.exchange.Goals as goal

pub returns-in-142 : goal.returns-in-142
unfolding rows
returns-in-142 c = grind (arith, exchange, masks)
