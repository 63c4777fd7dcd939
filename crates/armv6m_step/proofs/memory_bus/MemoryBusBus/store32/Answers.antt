-- `MemoryBusBus::store32`: that it keeps its contract.
use Rattle.std.proofs.Common.{arith}
use Rattle.std.proofs.lemmas.Grind.{common_steps}
use Rattle.armv6m_step.specs.Ram.{ram_answer}
use Rattle.armv6m_step.proofs.memory_bus.MemoryBusBus.store32.Goals as goal

pub returns : goal.returns
unfolding ram_answer
returns c = grind (arith, common_steps)
