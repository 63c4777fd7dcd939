-- `put_sum`: that it keeps its contract.
use Rattle.std.proofs.Common.{arith}
use Rattle.armv6m_step.proofs.quick.put_sum.Goals as goal

pub returns : goal.returns
returns c = grind arith
