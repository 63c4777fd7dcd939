-- `take_second`: that it keeps its contract.
use Rattle.std.proofs.Common.{arith}
use Rattle.std.proofs.lemmas.Grind.{common_steps}
use Rattle.job_text.specs.Reading.{second_head}
use Rattle.job_text.proofs.head.take_second.Goals as goal

pub returns-clause-gives : goal.returns-clause-gives
unfolding second_head
returns-clause-gives c = grind (arith, common_steps)

pub returns-clause-taken : goal.returns-clause-taken
returns-clause-taken c =
    omega (
      arith,
      c.in_ok-rest.ensures.taken,
      c.in_ok-board.ensures.taken,
      c.in_ok-files.ensures.taken,
      c.in_ok-first.ensures.taken,
      c.in_ok-second.ensures.taken,
      c.in_ok-runs.ensures.taken,
      c.in_ok-cells.ensures.taken,
    )

pub returns-clause-shorter : goal.returns-clause-shorter
returns-clause-shorter c =
    omega (
      arith,
      c.in_ok-rest.ensures.shorter,
      c.in_ok-board.ensures.shorter,
      c.in_ok-files.ensures.shorter,
      c.in_ok-first.ensures.shorter,
      c.in_ok-second.ensures.shorter,
      c.in_ok-runs.ensures.shorter,
      c.in_ok-cells.ensures.shorter,
    )
