-- `lay_all`: that its loop keeps its invariant, and that it keeps its contract.
use Rattle.std.proofs.Common.{◌<◌, ◌∙◌, [], length, sym, arith, rules}
use Rattle.std.proofs.lemmas.Grind.{common_steps}
use Rattle.std.proofs.lemmas.Option.{get_or_from_slice_get}
use Rattle.byte_map.specs.Image.{Run}
use Rattle.record_lines.proofs.Unions.{where_some, union_more}
use Rattle.record_lines.proofs.by_address.lay_all.Goals as goal

pub loop-index-preserved : goal.loop-index-preserved
loop-index-preserved c =
    let runs = c.args.runs.now in
    let index = c.loop-index.index in
    let run : Run = record { at = c.run-at.result.0; bytes = c.run-at.result.1.now } in
    let lt : index < length runs = omega (arith, c.len-index-end.ensures, c.loop-index-test.true) in
    let lays = where_some c.lay.result c.in_ok-ok.field-0 (sym c.ok.ensures.value ∙ c.in_ok-ok.was) c.lay.ensures.ok in
    union_more runs index run c.loop-index.map c.lay.new.self lt (get_or_from_slice_get runs index run (record { at = 0; bytes = [] }) c.run-at.ensures) lays
    c.loop-index.invariant

pub returns : goal.returns
returns c = grind (arith, common_steps)

pub returns-in_err-ok : goal.returns-in_err-ok
returns-in_err-ok c = grind (arith, common_steps)

pub loop-index-init : goal.loop-index-init
loop-index-init c = search rules
