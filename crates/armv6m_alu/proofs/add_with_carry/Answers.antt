-- `add_with_carry`: that it keeps its contract.
use Rattle.std.proofs.Common.{arith}
use Rattle.std.proofs.lemmas.Grind.{common_steps}
use Rattle.armv6m_alu.specs.Sums.{sum_with_carry}
use Rattle.armv6m_alu.proofs.add_with_carry.Goals as goal

pub returns : goal.returns
unfolding sum_with_carry
returns c = grind (arith, common_steps)
