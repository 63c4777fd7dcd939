-- `gather_action`: its contract, `Gathers`.
use Rattle.std.proofs.Common.{◌≡◌, ◌∙◌, ◌∷◌, [], List, ℕ, refl}
use Rattle.std.specs.Prelude.{codes, decimal}
use Rattle.std.specs.List.{concat}
use Rattle.octets.specs.Digit.{hex_text}
use Rattle.outside_io.proofs.GatherLemmas.{gathers_as}
use Rattle.report_text.specs.Plan.{action_text}
use Rattle.report_text.proofs.plan.gather_action.Goals as goal

-- the pieces are the line
in_pieces : (name place count : List ℕ) (at len : ℕ) → place ≡ hex_text 8 at → count ≡ decimal len
    → concat (name ∷ codes " " ∷ place ∷ codes " " ∷ count ∷ codes "\n" ∷ []) ≡ action_text name at len
unfolding action_text
in_pieces name place count at len of_place of_count = rw (of_place, of_count) refl

pub returns : goal.returns
returns g c =
    gathers_as (in_pieces c.args.name.now _ _ c.args.at c.args.len c.hex_digits-at.ensures (c.as_bytes-len.ensures.value ∙ c.format.ensures.text))
    c.add_all.ensures
