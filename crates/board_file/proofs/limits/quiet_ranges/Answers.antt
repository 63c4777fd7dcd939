-- `quiet_ranges`: that it keeps its contract.
use Rattle.std.proofs.Common.{arith}
use Rattle.std.proofs.lemmas.Grind.{common_steps}
use Rattle.board_file.proofs.limits.quiet_ranges.Goals as goal

pub written-preserved : goal.written-preserved
written-preserved c = grind (arith, common_steps)

pub overflow_cast-one : goal.overflow_cast-one
overflow_cast-one c = grind (arith, common_steps)

pub returns : goal.returns
returns c = grind (arith, common_steps)
