-- `last_destination`: that it keeps its contract.
use Rattle.std.proofs.Common.{arith}
use Rattle.std.proofs.lemmas.Grind.{common_steps}
use Rattle.armv6m_asm.proofs.destination.last_destination.Goals as goal

pub returns-then-is_end : goal.returns-then-is_end
returns-then-is_end c = grind (arith, common_steps)
