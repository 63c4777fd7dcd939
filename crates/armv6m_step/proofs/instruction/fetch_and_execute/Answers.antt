-- `fetch_and_execute`: that it keeps its contract.
use Rattle.std.proofs.Common.{arith}
use Rattle.armv6m_step.proofs.RunLemmas.{asks}
use Rattle.armv6m_step.specs.Step.{instruction}
use Rattle.armv6m_step.proofs.instruction.fetch_and_execute.Goals as goal

pub returns : goal.returns
unfolding instruction
returns g c = grind (arith, asks)

pub returns-in_err-half : goal.returns-in_err-half
unfolding instruction
returns-in_err-half g c = grind (arith, asks)
