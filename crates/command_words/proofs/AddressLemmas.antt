-- Addresses as words.
use Rattle.std.proofs.Common.{◌≡◌, ◌<◌, ◌≤◌, ◌^◌, ◌++◌, ◌∙◌, sym, ap, subst, arith, ⊎_elim, ℕ, List, length, codes, Option, Some, None, MatchOption, IfNone}
use Rattle.std.proofs.lemmas.List.{append_cancel_left}
use Rattle.std.proofs.lemmas.Int.Digits.{digits_value-lt}
use Rattle.std.proofs.Math.Nat.{pow-le-pow_right}
use Rattle.std.specs.Str.Parse.{IsNumeral, digits_value}
use Rattle.command_words.specs.Words.{IsAddress, IsHexadecimal, IsDecimal}

-- eight hexadecimal digits write less than 2^32
pub small_hexadecimal : (digits : List ℕ) → IsNumeral 16 digits → length digits ≤ 8 → digits_value 16 digits < 2 ^ 32
small_hexadecimal digits numeral few =
    let value : digits_value 16 digits < 16 ^ length digits = digits_value-lt 16 digits numeral.1 in
    let power : 16 ^ length digits ≤ 16 ^ 8 = pow-le-pow_right (omega arith) few in
    omega (arith, value, power)

-- a word that begins with `0x` isn't decimal
pub no_decimal : (word digits : List ℕ) (at : ℕ) → word ≡ codes "0x" ++ digits → IsDecimal word at → ⊥
no_decimal word digits at is decimal =
    let numeral = subst (λ (w : List ℕ). IsNumeral 10 w) is decimal.numeral in omega (arith, numeral.1.1.0)

-- the digits of a hexadecimal address
pub hex_digits : (word digits : List ℕ) (at : ℕ) → word ≡ codes "0x" ++ digits → (hex : IsHexadecimal word at) → hex.digits ≡ digits
hex_digits word digits at is hex = append_cancel_left (codes "0x") hex.digits digits (sym hex.word_is ∙ is)

pub no_hexadecimal : (word digits : List ℕ) → word ≡ codes "0x" ++ digits
    → (IsNumeral 16 digits → digits_value 16 digits < 2 ^ 32 → ⊥) → (at : ℕ) → IsAddress word at → ⊥
no_hexadecimal word digits is none at address = ⊎_elim
    (λ (hex : IsHexadecimal word at).
    let same = hex_digits word digits at is hex in
    let numeral : IsNumeral 16 digits = subst (λ (d : List ℕ). IsNumeral 16 d) same hex.numeral in
    none numeral (small_hexadecimal digits numeral (omega (arith, hex.few, ap length same))))
    (λ (decimal : IsDecimal word at). no_decimal word digits at is decimal)
    address

pub no_number : (number : Option ℕ) (word digits : List ℕ) → word ≡ codes "0x" ++ digits
    → MatchOption number (IsNumeral 16 digits → digits_value 16 digits < 2 ^ 32 → ⊥) (λ n. IsNumeral 16 digits × (n ≡ digits_value 16 digits))
    → IfNone number ((at : ℕ) → IsAddress word at → ⊥)
no_number None word digits is none = no_hexadecimal word digits is none
no_number (Some n) word digits is reads = tt
