-- The line of a target says done only where the target is done: no refusal's text is that word.
use Rattle.std.proofs.Common.{◌≡◌, refl, ap, arith, ℕ, List, ◌++◌, get_or, codes, Option, Some, None}
use Rattle.std.proofs.lemmas.List.{append_cancel_left}
use Rattle.report_text.specs.Calls.{failed_text}
use Rattle.report_text.specs.DoneLine.{target_head, done_text, done_line}
use Rattle.report_text.specs.Faults.{any_text, faulty_line, place_text}
use Rattle.report_text.specs.Lines.{difference_text, reason_of}
use Rattle.report_text.specs.Refusal.{Refusal, out_of_memory, usage, input_fault, image_too_long, image_refused, image_misplaced}
use Rattle.report_text.specs.Refusal.{flm_refused, other_device, no_room}
use Rattle.report_text.specs.Refusal.{board_refused, store_fault, device_fault, output_fault, call_failed}
use Rattle.report_text.specs.Refusal.{mismatch, differs}
use Rattle.report_text.specs.Target.{outcome_text, target_line}

-- a text isn't `done` if its first or its second byte is another
other_first : (a : ℕ) (text : List ℕ) → text ≡ done_text → get_or text 0 0 ≡ a → (a ≡ 100 → ⊥) → ⊥
other_first a text is first other =
    let same : get_or text 0 0 ≡ 100 = ap (λ (l : List ℕ). get_or l 0 0) is in
    let found : get_or text 0 0 ≡ a = first in
    other (omega (arith, same, found))

other_second : (a : ℕ) (text : List ℕ) → text ≡ done_text → get_or text 1 0 ≡ a → (a ≡ 111 → ⊥) → ⊥
other_second a text is second other =
    let same : get_or text 1 0 ≡ 111 = ap (λ (l : List ℕ). get_or l 1 0) is in
    let found : get_or text 1 0 ≡ a = second in
    other (omega (arith, same, found))

of_image : (name : List ℕ) (line : Option ℕ) (rest : List ℕ) → (place_text name line ++ rest) ++ codes "\n" ≡ done_text → ⊥
unfolding place_text
of_image name None rest is = other_first 105 _ is refl (λ e. omega (arith, e))
of_image name (Some line) rest is = other_first 105 _ is refl (λ e. omega (arith, e))

never_done : (r : Refusal) → reason_of r ++ codes "\n" ≡ done_text → ⊥
unfolding reason_of difference_text failed_text
never_done out_of_memory is = other_first 111 _ is refl (λ e. omega (arith, e))
never_done usage is = other_first 117 _ is refl (λ e. omega (arith, e))
never_done (input_fault name) is = other_first 99 _ is refl (λ e. omega (arith, e))
never_done (image_too_long bytes cells) is = other_first 105 _ is refl (λ e. omega (arith, e))
never_done (image_refused name fault) is = of_image name (faulty_line fault) (any_text fault) is
never_done (image_misplaced fault) is = other_first 105 _ is refl (λ e. omega (arith, e))
never_done (flm_refused fault) is = other_first 102 _ is refl (λ e. omega (arith, e))
never_done (other_device base size) is = other_first 102 _ is refl (λ e. omega (arith, e))
never_done (no_room need have) is = other_first 102 _ is refl (λ e. omega (arith, e))
never_done (board_refused fault) is = other_first 98 _ is refl (λ e. omega (arith, e))
never_done store_fault is = other_first 115 _ is refl (λ e. omega (arith, e))
never_done device_fault is = other_second 101 _ is refl (λ e. omega (arith, e))
never_done output_fault is = other_first 111 _ is refl (λ e. omega (arith, e))
never_done (call_failed number call end) is = other_first 99 _ is refl (λ e. omega (arith, e))
never_done (mismatch at wanted found) is = other_first 109 _ is refl (λ e. omega (arith, e))
never_done (differs place wanted found) is = other_second 105 _ is refl (λ e. omega (arith, e))
never_done r is = other_first 106 _ is refl (λ e. omega (arith, e))

pub only_done : (index : ℕ) (r : Option Refusal) → target_line index r ≡ done_line index → r ≡ None
only_done index None is = refl
only_done index (Some r) is = absurd (never_done r (append_cancel_left (target_head index) (outcome_text (Some r)) done_text is))
