-- `put_difference`: its contract, `Puts`.
use Rattle.std.proofs.Common.{◌≡◌, ◌∙◌, ◌∷◌, [], List, ℕ, ap, refl}
use Rattle.std.specs.Prelude.{codes}
use Rattle.std.specs.List.{concat}
use Rattle.octets.specs.Digit.{hex_text}
use Rattle.outside_io.proofs.PutTexts.{puts_as}
use Rattle.report_text.specs.Lines.{difference_text}
use Rattle.report_text.proofs.refusal.put_difference.Goals as goal

-- the pieces are the text
in_pieces : (what place one other : List ℕ) (at wanted found : ℕ) → place ≡ hex_text 8 at → one ≡ hex_text 2 wanted → other ≡ hex_text 2 found
    → concat (what ∷ codes " at " ∷ place ∷ codes " wanted " ∷ one ∷ codes " found " ∷ other ∷ []) ≡ difference_text what at wanted found
unfolding difference_text
in_pieces what place one other at wanted found of_place of_one of_other = rw (of_place, of_one, of_other) refl

pub returns : goal.returns
returns g c =
    puts_as (in_pieces c.args.what.now _ _ _ c.args.at c.args.wanted c.args.found c.hex_digits-at.ensures
    (c.hex_digits-wanted.ensures ∙ ap (hex_text 2) c.from.ensures) (c.hex_digits-found.ensures ∙ ap (hex_text 2) c.from-2.ensures))
    c.put_pieces.ensures
