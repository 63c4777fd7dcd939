-- `counted_bytes`: its contract, `IsCounted`.
use Rattle.std.proofs.Common.{◌≡◌, ◌∙◌, ℕ, List, Ok, inr, arith, sym, ap}
use Rattle.std.specs.List.{each_same, repeat}
use Rattle.std.specs.Str.Parse.{digits_value, without_leading_plus}
use Rattle.hex.specs.Hex.{decode_of}
use Rattle.row_text.proofs.digits.counted_bytes.Goals as goal

pub returns-in_ok-repeat-in-Some : goal.returns-in_ok-repeat-in-Some
returns-in_ok-repeat-in-Some c =
    let parts = c.in-Some.ensures.byte (omega arith) (λ w o found. found) in
    let once = c.deref.result.now in
    let made : c.in_ok-repeat-in-Some.field-0.items ≡ repeat c.in_ok-count-in-Some.count once =
    each_same (repeat c.in_ok-count-in-Some.count once) c.in_ok-repeat-in-Some.field-0.items c.in_ok-repeat-in-Some.ensures.items in
    inr (inr (record {
      once = once;
      pairs = ap decode_of (sym parts.0) ∙ c.in_ok-bytes_of-in-Some.ensures ∙ ap Ok (sym c.deref.ensures.value);
      often = made ∙ ap (λ (n : ℕ). repeat n once) (c.in_ok-count-in-Some.ensures.value.0.1
          ∙ ap (λ (l : List ℕ). digits_value 10 (without_leading_plus l)) parts.1);
    }))
