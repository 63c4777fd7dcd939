-- Digits of records that have the length which they count.
use Rattle.std.proofs.Common.{◌≡◌, ◌≤◌, ◌+◌, ◌*◌, ◌∙◌, ℕ, Bool, true, false, cond, List, length, get_or, Err, sym, ap, arith}
use Rattle.std.specs.Prelude.{◌==◌, ◌||◌, not, nat_lt, unwrap_or}
use Rattle.std.specs.List.{list_all}
use Rattle.std.proofs.lemmas.Bool.Decides.{nat_tests}
use Rattle.octets.specs.Digit.{pair_value}
use Rattle.record_lines.specs.Digits.{is_hex_digit, pairs}
use Rattle.record_lines.proofs.Pairs.{get_or-pairs}
use Rattle.image_hex.specs.declared.fault.HexKind.TheVariants.{BadDigit, BadLength}
use Rattle.image_hex.specs.Record.{Reading, read_digits, checked}

same_number : (a b : ℕ) → a ≡ b → (a == b) ≡ true
same_number a b is = grind (arith, nat_tests)

not_less : (a b : ℕ) → b ≤ a → nat_lt a b ≡ false
not_less a b le = grind (arith, nat_tests)

choice : (a b c : Bool) (x y z : Reading) → a ≡ true → b ≡ false → c ≡ true → cond (not a) x (cond (b || not c) y z) ≡ z
choice a b c x y z p q r =
    ap (λ (v : Bool). cond (not v) x (cond (b || not c) y z)) p ∙ ap (λ (v : Bool). cond (v || not c) y z) q ∙ ap (λ (v : Bool). cond (not v) y z) r

pub read_right : (digits : List ℕ) (count : ℕ) → list_all is_hex_digit digits ≡ true → 10 ≤ length digits →
    count ≡ unwrap_or (pair_value (get_or digits 0 0) (get_or digits 1 0)) 0 → length digits ≡ 10 + 2 * count → read_digits digits ≡ checked (pairs digits)
read_right digits count all least count_is long =
    let first : get_or (pairs digits) 0 0 ≡ count = get_or-pairs digits 0 (omega arith) ∙ sym count_is in
    choice (list_all is_hex_digit digits) (nat_lt (length digits) 10) (length digits == 10 + 2 * get_or (pairs digits) 0 0) (Err BadDigit) (Err BadLength)
    (checked (pairs digits)) all (not_less (length digits) 10 least)
    (same_number (length digits) (10 + 2 * get_or (pairs digits) 0 0) (omega (arith, first)))
