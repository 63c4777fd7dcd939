-- `go_on`: that it keeps its contract.
use Rattle.std.proofs.Common.{arith}
use Rattle.armv6m_step.proofs.RunLemmas.{asks}
use Rattle.armv6m_step.proofs.instruction.go_on.Goals as goal

pub returns-in_err-second-in-NeedsSecond : goal.returns-in_err-second-in-NeedsSecond
returns-in_err-second-in-NeedsSecond g c = grind (arith, asks)

pub returns-in-Undefined : goal.returns-in-Undefined
returns-in-Undefined g c = grind (arith, asks)

pub returns-in_ok-second-in-NeedsSecond : goal.returns-in_ok-second-in-NeedsSecond
returns-in_ok-second-in-NeedsSecond g c = grind (arith, asks)

pub returns-in-Op : goal.returns-in-Op
returns-in-Op g c = grind (arith, asks)
