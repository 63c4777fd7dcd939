-- `put_parts`: its contract, `Puts`.
use Rattle.std.proofs.Common.{◌≡◌, ◌∙◌, ◌∷◌, [], List, ℕ, length, ap, refl}
use Rattle.std.specs.Prelude.{codes, decimal}
use Rattle.std.specs.List.{concat}
use Rattle.outside_io.proofs.PutTexts.{puts_as}
use Rattle.report_text.specs.Inspection.{parts_text}
use Rattle.report_text.proofs.inspection.put_parts.Goals as goal

-- the pieces are the line
in_pieces : (one two three : List ℕ) (code init_data zeroed : ℕ) → one ≡ decimal code → two ≡ decimal init_data → three ≡ decimal zeroed
    → concat (codes "code " ∷ one ∷ codes " data " ∷ two ∷ codes " zero " ∷ three ∷ codes "\n" ∷ []) ≡ parts_text code init_data zeroed
unfolding parts_text
in_pieces one two three code init_data zeroed of_one of_two of_three = rw (of_one, of_two, of_three) refl

pub returns : goal.returns
returns g c =
    let a = c.args.algorithm.now in
    puts_as (in_pieces _ _ _ (length a.code) (length a.init_data) a.zero_len
    (c.as_bytes-code.ensures.value ∙ c.format.ensures.text ∙ ap decimal c.len.ensures)
    (c.as_bytes-init_data.ensures.value ∙ c.format-2.ensures.text ∙ ap decimal c.len-2.ensures)
    (c.as_bytes-zeroed.ensures.value ∙ c.format-3.ensures.text)) c.put_pieces.ensures
