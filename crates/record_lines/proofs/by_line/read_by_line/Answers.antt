-- `read_by_line`: its clauses `ok` and `err`, and that its loop keeps its invariant.
use Rattle.std.proofs.Common.{◌≡◌, ◌++◌, ◌-◌, ◌∙◌, ℕ, Bool, suc, List, [], take, drop, sym, subst, arith}
use Rattle.std.specs.Bool.{OnTrue}
use Rattle.std.proofs.lemmas.Grind.{common_steps}
use Rattle.octets.specs.Lines.{lines_of}
use Rattle.record_lines.specs.Cells.{Cell, IsImageOf}
use Rattle.record_lines.specs.Format.{line_cells, cells_before, IsFaultOfLine, IsLineFault}
use Rattle.record_lines.proofs.Reading.{HasRead, read_more, read_end, read_fault, read_all}
use Rattle.record_lines.proofs.by_line.read_by_line.Goals as goal

pub returns-in-Ok-true-clause-ok : goal.returns-in-Ok-true-clause-ok
returns-in-Ok-true-clause-ok g c =
    let (n, h) = c.loop-from.invariant.read in
    let f = g.S.RecordFormat.format in
    let text = c.args.text.now in
    let l = c.loop-from in
    let place = c.next_line-start.result in
    let here = take (place.1 - place.0) (drop place.0 text) in
    let before = cells_before f (lines_of text) n in
    let takes = c.in-Ok-true.ensures.ok before h.image_is in
    let none : line_cells f l.known (f.read here) ≡ [] = subst (λ (b : Bool). OnTrue b (line_cells f l.known (f.read here) ≡ [])) c.in-Ok-true.field-0-test
    takes.end_cells in
    let image = subst (λ (cells : List Cell). IsImageOf (cells ++ before) c.take_line.new.map) none takes.image_is in
    read_end f text l.from l.known n place.2 here h.behind c.next_line-start.ensures.lines l.line l.map c.take_line.new.map h takes.right
    (takes.ends_is ∙ c.in-Ok-true.field-0-test) image

pub loop-from-preserved : goal.loop-from-preserved
loop-from-preserved g c =
    let (n, h) = c.loop-from.invariant.read in
    let f = g.S.RecordFormat.format in
    let text = c.args.text.now in
    let l = c.loop-from in
    let place = c.next_line-start.result in
    let here = take (place.1 - place.0) (drop place.0 text) in
    let takes = c.in-Ok-false.ensures.ok (cells_before f (lines_of text) n) h.image_is in
    let more = read_more f text l.from l.known n place.2 here h.behind c.next_line-start.ensures.lines l.line l.map c.take_line.new.self c.take_line.new.map h
    takes.right (takes.ends_is ∙ c.in-Ok-false.field-0-test) takes.known_is takes.image_is in
    record {
      read = (
        suc n,
        subst (λ (line : ℕ). HasRead f text place.2 line c.take_line.new.self c.take_line.new.map (suc n)) (sym c.saturating_add-line.ensures)
            more,
      );
      roomy = omega (arith, l.invariant.roomy, c.in-Ok-false.ensures.room, c.next_line-start.ensures.further);
    }

pub returns-in-Err-Refused-clause-err : goal.returns-in-Err-Refused-clause-err
returns-in-Err-Refused-clause-err g c =
    let (n, h) = c.loop-from.invariant.read in
    let f = g.S.RecordFormat.format in
    let text = c.args.text.now in
    let l = c.loop-from in
    let place = c.next_line-start.result in
    let here = take (place.1 - place.0) (drop place.0 text) in
    let before = cells_before f (lines_of text) n in
    let arm = c.in-Err-Refused in
    let is = subst (IsLineFault f (f.read here) before l.known) arm.field-0-is (arm.ensures.err before h.image_is) in
    let fault = read_fault f text l.from l.known n place.2 here h.behind c.next_line-start.ensures.lines l.line l.map arm.fault h is in
    let at_line = subst (λ (line : ℕ). IsFaultOfLine f (lines_of text) line arm.fault) (sym c.saturating_add-line.ensures) fault in
    subst (IsFaultOfLine f (lines_of text) c.saturating_add-line.result) (sym arm.fault-is) at_line

pub returns-clause-err : goal.returns-clause-err
returns-clause-err g c =
    let (n, h) = c.loop-from.invariant.read in
    read_all g.S.RecordFormat.format c.args.text.now c.loop-from.from c.loop-from.line c.loop-from.known c.loop-from.map n h (omega arith)

pub loop-from-smaller : goal.loop-from-smaller
loop-from-smaller g c = grind (arith, common_steps)
