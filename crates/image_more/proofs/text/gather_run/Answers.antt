-- `gather_run`: its clause `text`, and that its loop keeps its invariant.
use Rattle.std.proofs.Common.{◌+◌, ◌-◌, [], ◌∷◌, drop, arith}
use Rattle.std.proofs.lemmas.Grind.{common_steps}
use Rattle.std.specs.Prelude.{slice_range}
use Rattle.byte_map.specs.Image.{Run}
use Rattle.outside_io.proofs.GatherLemmas.{gathers_as, gathers_failed}
use Rattle.image_more.specs.Rows.{run_rows}
use Rattle.image_more.proofs.RowLemmas.{row_next, one_row, rows_more, rows_break}
use Rattle.image_more.proofs.text.gather_run.Goals as goal

pub returns-in_err-gather_row-clause-text : goal.returns-in_err-gather_row-clause-text
returns-in_err-gather_row-clause-text g c =
    let at = c.args.at in
    let bytes = c.args.bytes.now in
    let from = c.loop-from.from in
    let count = c.min-count.result in
    let row : Run = record { at = at + from; bytes = slice_range bytes from (from + count) } in
    gathers_failed _ c.from_residual.ensures.0
    (rows_break c.loop-from.invariant.0 (row ∷ []) (run_rows (at + (from + count)) (drop (from + count) bytes))
    (row_next at from count bytes c.loop-from-test.true c.min-count.ensures)
    (gathers_as (one_row c.loop-from.form row) c.in_err-gather_row.ensures))

pub loop-from-preserved : goal.loop-from-preserved
loop-from-preserved g c =
    let at = c.args.at in
    let bytes = c.args.bytes.now in
    let from = c.loop-from.from in
    let count = c.min-count.result in
    let row : Run = record { at = at + from; bytes = slice_range bytes from (from + count) } in (
      rows_more c.loop-from.invariant.0 (row ∷ []) (run_rows (at + (from + count)) (drop (from + count) bytes))
          (row_next at from count bytes c.loop-from-test.true c.min-count.ensures)
          c.behind.result c.behind.ensures
          (gathers_as (one_row c.loop-from.form row) c.in_ok-gather_row.ensures),
      omega (arith, c.min-count.ensures, c.loop-from-test.true),
    )

pub returns-clause-text : goal.returns-clause-text
returns-clause-text g c = grind (arith, common_steps)

pub returns-clause-known : goal.returns-clause-known
returns-clause-known g c = grind (arith, common_steps)

pub loop-from-init : goal.loop-from-init
loop-from-init g c = grind (arith, common_steps)
