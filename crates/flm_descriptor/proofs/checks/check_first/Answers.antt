-- `check_first`: that it keeps its contract.
use Rattle.std.proofs.Common.{arith}
use Rattle.std.proofs.lemmas.Grind.{common_steps}
use Rattle.flm_descriptor.specs.Limits.{gap_fault}
use Rattle.flm_descriptor.proofs.checks.check_first.Goals as goal

pub returns-in-Some-clause-fault : goal.returns-in-Some-clause-fault
unfolding gap_fault
returns-in-Some-clause-fault c = grind (arith, common_steps)

pub returns-in-Some-clause-begins : goal.returns-in-Some-clause-begins
returns-in-Some-clause-begins c = grind (arith, common_steps)

pub returns-in_default-clause-fault : goal.returns-in_default-clause-fault
unfolding gap_fault
returns-in_default-clause-fault c = grind (arith, common_steps)
