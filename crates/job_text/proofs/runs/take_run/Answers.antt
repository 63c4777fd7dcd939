-- `take_run`: that it keeps its contract.
use Rattle.std.proofs.Common.{arith}
use Rattle.std.proofs.lemmas.Grind.{common_steps}
use Rattle.job_text.specs.Reading.{run_at}
use Rattle.job_text.proofs.runs.take_run.Goals as goal

pub returns-else-low-from-clause-gives : goal.returns-else-low-from-clause-gives
unfolding run_at
returns-else-low-from-clause-gives c = grind (arith, common_steps)

pub returns-then-covers-clause-inside : goal.returns-then-covers-clause-inside
returns-then-covers-clause-inside c = grind (arith, common_steps)

pub returns-then-covers-clause-some : goal.returns-then-covers-clause-some
returns-then-covers-clause-some c = grind (arith, common_steps)

pub returns-then-covers-clause-low : goal.returns-then-covers-clause-low
returns-then-covers-clause-low c = grind (arith, common_steps)

pub overflow_add-end : goal.overflow_add-end
overflow_add-end c = grind (arith, common_steps)

pub returns-then-covers-clause-taken : goal.returns-then-covers-clause-taken
returns-then-covers-clause-taken c = grind (arith, common_steps)

pub returns-then-covers-clause-shorter : goal.returns-then-covers-clause-shorter
returns-then-covers-clause-shorter c = omega (arith, c.in_ok-at.ensures.shorter, c.in_ok-len.ensures.shorter, c.in_ok-text.ensures.shorter)
