-- `gather_rows`: its contract, `Gathers`, that its loop keeps its invariant, and what `gather_run` requires.
use Rattle.std.proofs.Common.{◌+◌, ◌≤◌, ◌<◌, length, drop, ap, refl, subst, arith, []}
use Rattle.std.proofs.lemmas.List.{drop_all}
use Rattle.std.proofs.lemmas.Option.{get_or_from_slice_get}
use Rattle.byte_map.specs.Image.{Run, end_of}
use Rattle.byte_map.proofs.Runs.{each_run}
use Rattle.image_more.specs.Rows.{run_rows, rows_of}
use Rattle.outside_io.proofs.GatherLemmas.{gathers_failed}
use Rattle.image_more.proofs.RowLemmas.{rows_none, rows_more, rows_break, rows_gathered, rows_step}
use Rattle.image_more.proofs.text.gather_rows.Goals as goal

pub loop-index-init : goal.loop-index-init
loop-index-init g c = rows_none _ _ _ c.args.first (rows_of c.args.map.now) (rows_of c.args.map.now) refl

pub gather_run-requires : goal.gather_run-requires
gather_run-requires g c =
    let runs = c.args.map.now in
    let index = c.loop-index.index in
    let run : Run = record { at = c.run-at.result.0; bytes = c.run-at.result.1.now } in
    let lt : index < length runs = omega (arith, c.runs-index-end.ensures.count, c.loop-index-test.true) in
    let is = get_or_from_slice_get runs index run (record { at = 0; bytes = [] }) c.run-at.ensures in
    let each = each_run 0 4294967296 runs index c.runs-index-end.ensures.maximal lt in
    subst (λ (r : Run). end_of r ≤ 4294967296) is each.2

pub returns-in_err-gather_run : goal.returns-in_err-gather_run
returns-in_err-gather_run g c =
    let runs = c.args.map.now in
    let index = c.loop-index.index in
    let run : Run = record { at = c.run-at.result.0; bytes = c.run-at.result.1.now } in
    let lt : index < length runs = omega (arith, c.runs-index-end.ensures.count, c.loop-index-test.true) in
    gathers_failed _ c.from_residual.ensures.0
    (rows_break c.loop-index.invariant (run_rows run.at run.bytes) (rows_of (drop (index + 1) runs)) (rows_step runs index run lt c.run-at.ensures)
    c.in_err-gather_run.ensures.text)

pub loop-index-preserved : goal.loop-index-preserved
loop-index-preserved g c =
    let runs = c.args.map.now in
    let index = c.loop-index.index in
    let run : Run = record { at = c.run-at.result.0; bytes = c.run-at.result.1.now } in
    let lt : index < length runs = omega (arith, c.runs-index-end.ensures.count, c.loop-index-test.true) in
    rows_more c.loop-index.invariant (run_rows run.at run.bytes) (rows_of (drop (index + 1) runs)) (rows_step runs index run lt c.run-at.ensures)
    c.gather_run.new.form c.in_ok-gather_run.ensures.known c.in_ok-gather_run.ensures.text

pub returns : goal.returns
returns g c =
    let runs = c.args.map.now in
    let past : length runs ≤ c.loop-index.index = omega (arith, c.runs-index-end.ensures.count, c.loop-index.auto.index-end) in
    rows_gathered (ap rows_of (drop_all c.loop-index.index runs past)) c.loop-index.invariant
