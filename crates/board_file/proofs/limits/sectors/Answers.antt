-- `sectors`: that it keeps its contract.
use Rattle.std.proofs.Common.{arith}
use Rattle.std.proofs.lemmas.Grind.{common_steps}
use Rattle.board_file.proofs.limits.sectors.Goals as goal

pub written-preserved : goal.written-preserved
written-preserved c = grind (arith, common_steps)

pub returns-clause-said : goal.returns-clause-said
returns-clause-said c = grind (arith, common_steps)

pub returns-in_default-clause-said : goal.returns-in_default-clause-said
returns-in_default-clause-said c = grind (arith, common_steps)

pub returns-clause-sectors : goal.returns-clause-sectors
returns-clause-sectors c = grind (arith, common_steps)

pub returns-clause-cells : goal.returns-clause-cells
returns-clause-cells c = grind (arith, common_steps)
