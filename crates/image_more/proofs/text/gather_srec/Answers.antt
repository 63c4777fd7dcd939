-- `gather_srec`: its contract, `Gathers`.
use Rattle.std.proofs.Common.{List, ℕ, [], ◌∷◌, ◌++◌}
use Rattle.std.specs.Prelude.{codes}
use Rattle.image_more.specs.declared.form.RowForm.TheVariants.{Srec}
use Rattle.image_more.specs.Rows.{rows_of}
use Rattle.image_more.specs.Texts.{rows_lines, srec_lines, text_of}
use Rattle.outside_io.proofs.GatherLemmas.{gathers_as, gathers_then, gathers_stops, gathers_failed}
use Rattle.image_more.proofs.RowLemmas.{text-both}
use Rattle.image_more.proofs.text.gather_srec.Goals as goal

pub returns-in_err-add : goal.returns-in_err-add
unfolding srec_lines
returns-in_err-add g c =
    let rows = rows_lines Srec (rows_of c.args.map.now) in
    let last : List (List ℕ) = codes "S70500000000FA" ∷ [] in
    gathers_failed _ c.from_residual.ensures.0 (gathers_stops (text_of (rows ++ last)) c.in_err-add.ensures)

pub returns-in_err-gather_rows : goal.returns-in_err-gather_rows
unfolding srec_lines
returns-in_err-gather_rows g c =
    let rows = rows_lines Srec (rows_of c.args.map.now) in
    let last : List (List ℕ) = codes "S70500000000FA" ∷ [] in
    gathers_failed _ c.from_residual-in_err-gather_rows.ensures.0
    (gathers_then _ c.in_ok-add.ensures (gathers_as (text-both rows last) (gathers_stops (text_of last) c.in_err-gather_rows.ensures)))

pub returns : goal.returns
unfolding srec_lines
returns g c =
    let rows = rows_lines Srec (rows_of c.args.map.now) in
    let last : List (List ℕ) = codes "S70500000000FA" ∷ [] in
    gathers_then _ c.in_ok-add.ensures (gathers_as (text-both rows last) (gathers_then _ c.in_ok-gather_rows.ensures c.add-2.ensures))
