-- `at_sp`: that it keeps its contract.
use Rattle.std.proofs.Common.{arith}
use Rattle.armv6m_step.proofs.quick.at_sp.Goals as goal

pub returns : goal.returns
returns c = grind arith
