-- `gather_hex`: its contract, `Gathers`.
use Rattle.std.proofs.Common.{List, ℕ, [], ◌∷◌, None}
use Rattle.std.specs.Prelude.{codes}
use Rattle.image_more.specs.declared.form.RowForm.TheVariants.{Hex}
use Rattle.image_more.specs.Rows.{rows_of}
use Rattle.image_more.specs.Texts.{rows_lines, hex_lines, text_of}
use Rattle.outside_io.proofs.GatherLemmas.{gathers_as, gathers_then, gathers_stops, gathers_failed}
use Rattle.image_more.proofs.RowLemmas.{text-both}
use Rattle.image_more.proofs.text.gather_hex.Goals as goal

pub returns-in_err-gather_rows : goal.returns-in_err-gather_rows
unfolding hex_lines
returns-in_err-gather_rows g c =
    let rows = rows_lines (Hex None) (rows_of c.args.map.now) in
    let last : List (List ℕ) = codes ":00000001FF" ∷ [] in
    gathers_failed _ c.from_residual.ensures.0 (gathers_as (text-both rows last) (gathers_stops (text_of last) c.in_err-gather_rows.ensures))

pub returns : goal.returns
unfolding hex_lines
returns g c =
    let rows = rows_lines (Hex None) (rows_of c.args.map.now) in
    let last : List (List ℕ) = codes ":00000001FF" ∷ [] in
    gathers_as (text-both rows last) (gathers_then _ c.in_ok-gather_rows.ensures c.add.ensures)
