-- The outcomes of a gang by one function for all its places, which names them before they are there; where all targets have ended they are theirs.
use Rattle.std.proofs.Common.{◌≡◌, ◌∙◌, ◌<◌, refl, sym, ap, arith, ℕ, suc, List, [], ◌∷◌, map, length, get_or, Option, option_map, Some, None}
use Rattle.report_text.specs.Refusal.{Refusal}
use Rattle.flash_session.specs.declared.cursor.Place.{Place}
use Rattle.flash_session.specs.declared.cursor.Place.TheVariants as place
use Rattle.flash_session.specs.declared.fault.SurveyFault.TheVariants as survey
use Rattle.flash_session.specs.declared.target_end.TargetEnd.{TargetEnd}
use Rattle.flash_session.specs.declared.target_end.TargetEnd.TheVariants as ended
use Rattle.flash_session.specs.declared.target_end.Turn.TheVariants as turn
use Rattle.flash_session.specs.Turns.{turn_of}
use Rattle.gang_run.specs.declared.gang.Gang.{Gang}
use Rattle.gang_run.specs.declared.slot.Slot.{Slot}
use Rattle.gang_run.specs.declared.slot.Slot.TheVariants as slot
use Rattle.gang_run.specs.Slots.{slot_turn}
use Rattle.gang_commands.specs.Lines.{Outcome, reason}
use Rattle.gang_commands.specs.Puts.{end_of, outcome_of, HaveOutcomes, HasEndedUpto}

-- a target under way has any end here
abbrev pub end_or : Place → TargetEnd
end_or (place.At c) = ended.StoreFault
end_or (place.In call len left next) = ended.StoreFault
end_or (place.Comparing at) = ended.StoreFault
end_or place.Closing = ended.StoreFault
end_or (place.Ended e) = e

abbrev pub outcome_at : Slot → Outcome
outcome_at (slot.Refused e) = record { end = e; regions = None }
outcome_at (slot.Open x) = record { end = end_or x.player.place; regions = Some x.job.board.regions }

abbrev pub outcomes : Gang → List Outcome
outcomes g = map outcome_at g.slots.items

-- ---- of targets that have ended

end_is_or : (p : Place) → turn_of p ≡ turn.Ended → end_of p ≡ Some (end_or p)
end_is_or (place.At c) over = cc
end_is_or (place.In call len left next) over = cc
end_is_or (place.Comparing at) over = cc
end_is_or place.Closing over = cc
end_is_or (place.Ended e) over = refl

outcome_is : (s : Slot) → slot_turn s ≡ turn.Ended → outcome_of s ≡ Some (outcome_at s)
outcome_is (slot.Refused e) over = refl
outcome_is (slot.Open x) over =
    ap (λ (o : Option TargetEnd). option_map (λ (e : TargetEnd). record { end = e; regions = Some x.job.board.regions }) o) (end_is_or x.player.place over)

-- the refusal of a target is that of its outcome, and the other way round
pub reason_of : (s : Slot) (o : Option Refusal) → slot_turn s ≡ turn.Ended → o ≡ reason (outcome_at s) → option_map reason (outcome_of s) ≡ Some o
reason_of s o over is = ap (λ (x : Option Outcome). option_map reason x) (outcome_is s over) ∙ ap (λ (r : Option Refusal). Some r) (sym is)

pub reason_at : (s : Slot) (o : Option Refusal) → slot_turn s ≡ turn.Ended → option_map reason (outcome_of s) ≡ Some o → o ≡ reason (outcome_at s)
reason_at s o over is = let both : Some (reason (outcome_at s)) ≡ Some o = sym (ap (λ (x : Option Outcome). option_map reason x) (outcome_is s over)) ∙ is in cc

abbrev any_slot : Slot
any_slot = slot.Refused (ended.Survey survey.StoreFault)

all_are : (l : List Slot) → ((i : ℕ) → i < length l → slot_turn (get_or l i any_slot) ≡ turn.Ended)
    → map outcome_of l ≡ map (λ (o : Outcome). Some o) (map outcome_at l)
all_are [] over = refl
all_are (s ∷ rest) over =
    let first : outcome_of s ≡ Some (outcome_at s) = outcome_is s (over 0 (omega arith)) in
    let later : map outcome_of rest ≡ map (λ (o : Outcome). Some o) (map outcome_at rest) =
    all_are rest (λ i less. over (suc i) (omega (arith, less))) in
    ap (λ (o : Option Outcome). o ∷ map outcome_of rest) first ∙ ap (λ (l : List (Option Outcome)). Some (outcome_at s) ∷ l) later

pub have_outcomes : (g : Gang) → HasEndedUpto g (length g.slots.items) → HaveOutcomes g (outcomes g)
have_outcomes g over = all_are g.slots.items over

-- outcomes that a gang has are those that the function names
same_some : (a b : List Outcome) → map (λ (o : Outcome). Some o) a ≡ map (λ (o : Outcome). Some o) b → a ≡ b
same_some [] [] is = refl
same_some [] (y ∷ b) is = cc
same_some (x ∷ a) [] is = cc
same_some (x ∷ a) (y ∷ b) is =
    let heads : Some x ≡ Some y = cc in
    let first : x ≡ y = cc in
    let rest : map (λ (o : Outcome). Some o) a ≡ map (λ (o : Outcome). Some o) b = cc in
    ap (λ (z : Outcome). z ∷ a) first ∙ ap (λ (l : List Outcome). y ∷ l) (same_some a b rest)

pub outcomes_are : (g : Gang) (ends : List Outcome) → HasEndedUpto g (length g.slots.items) → HaveOutcomes g ends → ends ≡ outcomes g
outcomes_are g ends over are = same_some ends (outcomes g) (sym are ∙ have_outcomes g over)
