-- `take_first`: its clause `shorter`.
use Rattle.std.proofs.Common.{ap, drop, length, nat_eq, arith}
use Rattle.std.specs.List.{starts_with}
use Rattle.std.proofs.lemmas.List.{length-drop}
use Rattle.job_text.specs.Body.{first_mark}
use Rattle.job_text.proofs.Steps.{then_ok}
use Rattle.job_text.proofs.head.take_first.Goals as goal

pub returns-clause-shorter : goal.returns-clause-shorter
returns-clause-shorter c =
    let bytes = c.args.bytes.now in
    let marked = then_ok (starts_with nat_eq bytes first_mark) 1 (drop 7 bytes) c.in_ok-rest.rest.now c.in_ok-rest.ensures.gives in
    omega (
      arith,
      ap length marked.1,
      length-drop 7 bytes,
      c.in_ok-board.ensures.shorter,
      c.in_ok-first.ensures.shorter,
      c.in_ok-runs.ensures.shorter,
      c.in_ok-cells.ensures.shorter,
    )

pub returns-clause-taken : goal.returns-clause-taken
returns-clause-taken c =
    omega (
      arith,
      c.in_ok-rest.ensures.taken,
      c.in_ok-board.ensures.taken,
      c.in_ok-first.ensures.taken,
      c.in_ok-runs.ensures.taken,
      c.in_ok-cells.ensures.taken,
    )
