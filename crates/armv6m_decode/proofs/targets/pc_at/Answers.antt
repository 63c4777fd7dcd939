-- `pc_at`: that it keeps its contract.
use Rattle.std.proofs.Common.{arith}
use Rattle.armv6m_decode.proofs.targets.pc_at.Goals as goal

pub returns : goal.returns
returns c = grind arith
