-- `put_unread`: its contract, `Puts`.
use Rattle.std.proofs.Common.{◌≡◌, ◌++◌, ◌∷◌, ◌∙◌, sym, ap, refl, arith, false, ℕ, List, [], map, codes, append-nil}
use Rattle.std.specs.Char.{is_ascii_control}
use Rattle.std.specs.List.{list_any}
use Rattle.std.proofs.lemmas.List.Concat.{flat_map_single}
use Rattle.outside_io.proofs.PutTexts.{puts_then, puts_stops, puts_failed, puts_as}
use Rattle.report_text.specs.Lines.{visible, reason_of}
use Rattle.report_text.proofs.refusal.put_unread.Goals as goal

-- A name without a control character is shown as it is.
shown_as_it_is : (name : List ℕ) → list_any is_ascii_control name ≡ false → map visible name ≡ name
shown_as_it_is [] none = refl
shown_as_it_is (byte ∷ name) none = grind (arith, shown_as_it_is name)

pub returns-in_err-put_pieces : goal.returns-in_err-put_pieces
unfolding reason_of
returns-in_err-put_pieces g c = puts_failed _ c.from_residual.ensures.0 (puts_stops (map visible c.args.name.now) c.in_err-put_pieces.ensures)

pub returns-in_ok-put_pieces : goal.returns-in_ok-put_pieces
unfolding reason_of
returns-in_ok-put_pieces g c = puts_then _ c.in_ok-put_pieces.ensures (puts_as (flat_map_single visible _) c.put_visible.ensures)

pub returns-else-has_control : goal.returns-else-has_control
unfolding reason_of
returns-else-has_control g c =
    let same = shown_as_it_is c.args.name.now (sym c.has_control.ensures ∙ c.if-has_control.false) in
    puts_as (ap (λ (t : List ℕ). codes "cannot read " ++ t) (append-nil c.args.name.now ∙ sym same)) c.put_pieces-else-has_control.ensures
