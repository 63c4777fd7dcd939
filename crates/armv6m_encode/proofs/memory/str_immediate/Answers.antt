-- `str_immediate`: that it keeps its contract.
use Rattle.std.proofs.Common.{arith}
use Rattle.armv6m_decode.specs.Table.{rows}
use Rattle.armv6m_decode.proofs.Masks.{masks}
use Rattle.armv6m_decode.proofs.Near.{words}
use Rattle.armv6m_encode.proofs.memory.str_immediate.Goals as goal

pub returns : goal.returns
unfolding rows
returns c = grind (arith, words, masks)
