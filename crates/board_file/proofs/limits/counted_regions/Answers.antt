-- `counted_regions`: that it keeps its contract.
use Rattle.std.proofs.Common.{arith}
use Rattle.std.proofs.lemmas.Grind.{common_steps}
use Rattle.board_file.proofs.limits.counted_regions.Goals as goal

pub written-preserved : goal.written-preserved
written-preserved c = grind (arith, common_steps)

pub returns-in_err-next-clause-said : goal.returns-in_err-next-clause-said
returns-in_err-next-clause-said c = grind (arith, common_steps)

pub returns-clause-said : goal.returns-clause-said
returns-clause-said c = grind (arith, common_steps)

pub returns-clause-same : goal.returns-clause-same
returns-clause-same c = grind (arith, common_steps)
