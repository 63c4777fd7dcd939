-- `gather_row`: its contract, `Gathers`.
use Rattle.std.proofs.Common.{◌∙◌, ◌/◌, ◌%◌, [], ◌∷◌, sym, ap, arith}
use Rattle.std.proofs.lemmas.Grind.{common_steps}
use Rattle.byte_map.specs.Image.{Run}
use Rattle.image_more.specs.declared.form.RowForm.{RowForm}
use Rattle.image_more.specs.Texts.{hex_line, upper_lines, row_lines, text_of}
use Rattle.outside_io.proofs.GatherLemmas.{gathers_as, gathers_then, gathers_stops, gathers_failed}
use Rattle.image_more.proofs.RowLemmas.{text-both}
use Rattle.image_more.proofs.text.gather_row.Goals as goal

pub returns-in_ok-gather_upper-in-Hex : goal.returns-in_ok-gather_upper-in-Hex
returns-in_ok-gather_upper-in-Hex g c =
    let row : Run = record { at = c.args.at; bytes = c.args.bytes.now } in
    gathers_as
    (text-both (upper_lines c.in-Hex.upper (c.args.at / 65536)) (hex_line 0 (c.args.at % 65536) c.args.bytes.now ∷ [])
    ∙ ap (λ (form : RowForm). text_of (row_lines form row)) (sym c.in-Hex.is))
    (gathers_then _ c.in_ok-gather_upper-in-Hex.ensures c.gather_hex_line.ensures)

pub returns-in_err-gather_upper-in-Hex : goal.returns-in_err-gather_upper-in-Hex
returns-in_err-gather_upper-in-Hex g c =
    let row : Run = record { at = c.args.at; bytes = c.args.bytes.now } in
    let last = hex_line 0 (c.args.at % 65536) c.args.bytes.now ∷ [] in
    gathers_failed _ c.from_residual.ensures.0
    (gathers_as
    (text-both (upper_lines c.in-Hex.upper (c.args.at / 65536)) last ∙ ap (λ (form : RowForm). text_of (row_lines form row)) (sym c.in-Hex.is))
    (gathers_stops (text_of last) c.in_err-gather_upper-in-Hex.ensures))

pub returns-in-Srec : goal.returns-in-Srec
returns-in-Srec g c = grind (arith, common_steps)
