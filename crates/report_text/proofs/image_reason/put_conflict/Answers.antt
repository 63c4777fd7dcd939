-- `put_conflict`: its contract, `Puts`.
use Rattle.std.proofs.Common.{◌≡◌, ◌∙◌, ◌∷◌, [], List, ℕ, ap, refl}
use Rattle.std.specs.Prelude.{codes}
use Rattle.std.specs.List.{concat}
use Rattle.octets.specs.Digit.{hex_text}
use Rattle.outside_io.proofs.PutTexts.{puts_as}
use Rattle.report_text.specs.Faults.{conflict_text}
use Rattle.report_text.proofs.image_reason.put_conflict.Goals as goal

-- the pieces are the text
in_pieces : (place one other : List ℕ) (at old new : ℕ) → place ≡ hex_text 8 at → one ≡ hex_text 2 old → other ≡ hex_text 2 new
    → concat (codes "Conflict " ∷ place ∷ codes " " ∷ one ∷ codes " " ∷ other ∷ []) ≡ conflict_text at old new
unfolding conflict_text
in_pieces place one other at old new of_place of_one of_other = rw (of_place, of_one, of_other) refl

pub returns : goal.returns
returns g c =
    puts_as (in_pieces _ _ _ c.args.at c.args.old c.args.new c.hex_digits-at.ensures
    (c.hex_digits-old.ensures ∙ ap (hex_text 2) c.from.ensures) (c.hex_digits-new.ensures ∙ ap (hex_text 2) c.from-2.ensures))
    c.put_pieces.ensures
