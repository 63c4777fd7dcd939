-- The table of digit values and the test of a digit, compared with their definitions at each of the 256 bytes.
use Rattle.std.proofs.Common.{◌≡◌, ◌<◌, ◌≤◌, ◌+◌, ◌%◌, ◌∙◌, ℕ, Bool, false, List, map, get_or, Option, Some, None, refl, sym, ap, arith, bit_or}
use Rattle.std.specs.Prelude.{◌||◌, nat_lt, is_some, unwrap_or}
use Rattle.std.specs.List.{range_with_len}
use Rattle.std.proofs.lemmas.Bool.Decides.{nat_tests}
use Rattle.std.proofs.lemmas.List.FromFn.{get_or-map-range_with_len}
use Rattle.octets.specs.Digit.{hex_value, byte_of_values, pair_value}
use Rattle.record_lines.specs.Digits.{is_hex_digit}
use Rattle.record_lines.specs.declared.digits.TheConstants.{VALUES}

abbrev value : ℕ → ℕ
value byte = unwrap_or (hex_value byte) 16

table_is : VALUES ≡ map value (range_with_len 0 256)
unfolding hex_value
table_is = refl

-- two tests that agree on the bytes 0 to 255 one by one agree on each byte
same_test : (f g : ℕ → Bool) → map f (range_with_len 0 256) ≡ map g (range_with_len 0 256) → (byte : ℕ) → byte < 256 → f byte ≡ g byte
same_test f g same byte lt =
    sym (get_or-map-range_with_len f 0 256 byte byte false lt (omega arith))
    ∙ ap (λ (t : List Bool). get_or t byte false) same
    ∙ get_or-map-range_with_len g 0 256 byte byte false lt (omega arith)

abbrev is_below : ℕ → Bool
is_below byte = nat_lt (value byte) 16

below_are : map is_below (range_with_len 0 256) ≡ map is_hex_digit (range_with_len 0 256)
unfolding hex_value
below_are = refl

abbrev is_tested : ℕ → Bool
is_tested byte = nat_lt ((byte + 208) % 256) 10 || nat_lt ((bit_or byte 32 + 159) % 256) 6

tests_are : map is_tested (range_with_len 0 256) ≡ map is_hex_digit (range_with_len 0 256)
unfolding hex_value
tests_are = refl

-- the test of a digit by two ranges is the one that the definition makes
pub test_is : (byte : ℕ) → byte < 256 → (nat_lt ((byte + 208) % 256) 10 || nat_lt ((bit_or byte 32 + 159) % 256) 6) ≡ is_hex_digit byte
test_is byte lt = same_test is_tested is_hex_digit tests_are byte lt

-- the table has at each byte the value of that digit
pub value_at : (byte : ℕ) → byte < 256 → get_or VALUES byte 0 ≡ unwrap_or (hex_value byte) 16
value_at byte lt = ap (λ (t : List ℕ). get_or t byte 0) table_is ∙ get_or-map-range_with_len value 0 256 byte byte 0 lt (omega arith)

none_first : (high low : Option ℕ) → is_some high ≡ false → 0 ≡ unwrap_or (byte_of_values high low) 0
none_first None low none = refl
none_first (Some x) low none = absurd (cc)

none_second : (high low : Option ℕ) → is_some low ≡ false → 0 ≡ unwrap_or (byte_of_values high low) 0
none_second None None none = refl
none_second (Some x) None none = refl
none_second high (Some y) none = absurd (cc)

not_digit : (byte a : ℕ) → byte < 256 → a ≡ unwrap_or (hex_value byte) 16 → 16 ≤ a → is_hex_digit byte ≡ false
not_digit byte a lt p le =
    sym (same_test is_below is_hex_digit below_are byte lt)
    ∙ ap (λ (n : ℕ). nat_lt n 16) (sym p)
    ∙ (let is : nat_lt a 16 ≡ false = grind (arith, nat_tests) in is)

-- two bytes stand for no number where one of them is no digit
pub first_none : (high low a : ℕ) → high < 256 → a ≡ unwrap_or (hex_value high) 16 → 16 ≤ a → 0 ≡ unwrap_or (pair_value high low) 0
first_none high low a lt p le = none_first (hex_value high) (hex_value low) (not_digit high a lt p le)

pub second_none : (high low b : ℕ) → low < 256 → b ≡ unwrap_or (hex_value low) 16 → 16 ≤ b → 0 ≡ unwrap_or (pair_value high low) 0
second_none high low b lt p le = none_second (hex_value high) (hex_value low) (not_digit low b lt p le)
