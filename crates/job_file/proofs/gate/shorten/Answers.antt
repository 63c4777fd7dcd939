-- `shorten`: that it keeps its contract.
use Rattle.std.proofs.Common.{arith}
use Rattle.std.proofs.lemmas.Grind.{common_steps}
use Rattle.job_file.proofs.gate.shorten.Goals as goal

pub returns-clause-cause : goal.returns-clause-cause
returns-clause-cause g c = grind (arith, common_steps)

pub returns-clause-cells : goal.returns-clause-cells
returns-clause-cells g c = grind (arith, common_steps)

pub returns-clause-moments : goal.returns-clause-moments
returns-clause-moments g c = grind (arith, common_steps)

pub returns-then-branch-le1-clause-cells : goal.returns-then-branch-le1-clause-cells
returns-then-branch-le1-clause-cells g c = grind (arith, common_steps)

pub cut_synced-requires : goal.cut_synced-requires
cut_synced-requires g c = grind (arith, common_steps)

pub returns-clause-ok : goal.returns-clause-ok
returns-clause-ok g c = grind (arith, common_steps)

pub returns-then-branch-le1-clause-moments : goal.returns-then-branch-le1-clause-moments
returns-then-branch-le1-clause-moments g c = grind (arith, common_steps)

pub returns-then-branch-le1-clause-cause : goal.returns-then-branch-le1-clause-cause
returns-then-branch-le1-clause-cause g c = grind (arith, common_steps)

pub returns-then-branch-le1-clause-ok : goal.returns-then-branch-le1-clause-ok
returns-then-branch-le1-clause-ok g c = grind (arith, common_steps)
