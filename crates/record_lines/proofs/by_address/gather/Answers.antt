-- `gather`: its contract, `AreRunsOfText`, and that its loop keeps its invariant.
use Rattle.std.proofs.Common.{◌≡◌, ◌-◌, ◌++◌, ◌∙◌, Bool, suc, List, [], take, drop, sym, subst, arith}
use Rattle.std.specs.Bool.{OnTrue}
use Rattle.std.proofs.lemmas.Grind.{common_steps}
use Rattle.octets.specs.Lines.{lines_of}
use Rattle.record_lines.specs.Cells.{Cell, AreConsistent, IsImageOf}
use Rattle.record_lines.specs.Format.{line_cells}
use Rattle.record_lines.specs.Gathered.{AreRunsBefore}
use Rattle.record_lines.proofs.Reading.{empty_image, next_inside, next_fault, next_ends, next_cells, behind_next}
use Rattle.record_lines.proofs.Unions.{where_some}
use Rattle.record_lines.proofs.Gathering.{gathered_more}
use Rattle.record_lines.proofs.by_address.gather.Goals as goal

pub returns-in-Ok-true : goal.returns-in-Ok-true
returns-in-Ok-true g c =
    let (n, h, before) = c.loop-from.invariant.read in
    let f = g.S.RecordFormat.format in
    let text = c.args.text.now in
    let l = c.loop-from in
    let place = c.next_line-start.result in
    let here = take (place.1 - place.0) (drop place.0 text) in
    let lines = c.next_line-start.ensures.lines in
    let empty = subst (IsImageOf []) (sym c.new-map.ensures) empty_image in
    let takes = c.in-Ok-true.ensures.ok [] empty in
    let none : line_cells f l.known (f.read here) ≡ [] = subst (λ (b : Bool). OnTrue b (line_cells f l.known (f.read here) ≡ [])) c.in-Ok-true.field-0-test
    takes.end_cells in
    record {
      place = n;
      before = before;
      inside = next_inside f text l.from l.known n place.2 here h lines;
      right = next_fault f text l.from l.known n place.2 here h lines [] ∙ takes.right;
      ends = next_ends f text l.from l.known n place.2 here h lines ∙ takes.ends_is ∙ c.in-Ok-true.field-0-test;
      no_cells = next_cells f text l.from l.known n place.2 here h lines ∙ none;
    }

pub loop-from-preserved : goal.loop-from-preserved
loop-from-preserved g c =
    let (n, h, before) = c.loop-from.invariant.read in
    let f = g.S.RecordFormat.format in
    let text = c.args.text.now in
    let l = c.loop-from in
    let place = c.next_line-start.result in
    let here = take (place.1 - place.0) (drop place.0 text) in
    let lines = c.next_line-start.ensures.lines in
    let empty = subst (IsImageOf []) (sym c.new-map.ensures) empty_image in
    let takes = c.in-Ok-false.ensures.ok [] empty in
    let cells = next_cells f text l.from l.known n place.2 here h lines in
    let more = gathered_more f (lines_of text) n l.gathered c.take_line.new.map before (next_inside f text l.from l.known n place.2 here h lines)
    (next_fault f text l.from l.known n place.2 here h lines [] ∙ takes.right)
    (next_ends f text l.from l.known n place.2 here h lines ∙ takes.ends_is ∙ c.in-Ok-false.field-0-test)
    (subst AreConsistent (sym cells) takes.own)
    (subst (λ (cs : List Cell). IsImageOf (cs ++ []) c.take_line.new.map) (sym cells) takes.image_is) in
    let pushed = where_some c.push_runs.result c.in_ok-ok-in-Ok-false.field-0 (sym c.ok.ensures.value ∙ c.in_ok-ok-in-Ok-false.was) c.push_runs.ensures in
    record {
      read = (
        suc n,
        behind_next f text l.from l.known n place.2 here h lines c.take_line.new.self takes.known_is,
        subst (AreRunsBefore f (lines_of text) (suc n)) (sym pushed) more,
      );
      roomy = omega (arith, l.invariant.roomy, c.in-Ok-false.ensures.room, c.next_line-start.ensures.further);
    }

pub returns-in_err-ok-in-Ok-false : goal.returns-in_err-ok-in-Ok-false
returns-in_err-ok-in-Ok-false g c = grind (arith, common_steps)
