-- `add_pair`: that it keeps its contract.
use Rattle.std.proofs.Common.{arith}
use Rattle.std.proofs.lemmas.Grind.{common_steps}
use Rattle.armv6m_asm.proofs.code.add_pair.Goals as goal

pub returns : goal.returns
returns c = grind (arith, common_steps)
