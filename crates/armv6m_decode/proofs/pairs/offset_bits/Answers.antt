-- `offset_bits`: that it keeps its contract.
use Rattle.std.proofs.Common.{arith}
use Rattle.std.proofs.lemmas.Grind.{common_steps}
use Rattle.armv6m_decode.proofs.pairs.offset_bits.Goals as goal

pub returns : goal.returns
returns c = grind (arith, common_steps)
