-- Lemmas on numbers as words.
use Rattle.std.proofs.Common.{◌≡◌, ◌≤◌, ◌<◌, ◌^◌, ap, subst, ℕ, suc, zero, List, [], ◌∷◌, ◌++◌, codes, length, arith, Option, Some, None, MatchOption}
use Rattle.std.specs.Str.{IsAscii, IsUtf8}
use Rattle.std.specs.Char.{digit_value}
use Rattle.std.specs.Str.Parse.{AllDigits, IsNumeral, digits_value}
use Rattle.std.proofs.lemmas.Str.{IsUtf8-from_ascii}
use Rattle.std.proofs.lemmas.Int.Digits.{digits_value-lt}
use Rattle.armv6m_asm.specs.Statement.{IsAddress}

-- digits are ASCII
digit_small : (byte : ℕ) → digit_value byte < 36 → byte < 128
digit_small byte h = grind arith

IsAscii-digits : (radix : ℕ) (digits : List ℕ) → radix ≤ 36 → AllDigits radix digits → IsAscii digits
IsAscii-digits radix [] most h i = omega arith
IsAscii-digits radix (byte ∷ rest) most h zero = digit_small byte (omega (arith, h.0))
IsAscii-digits radix (byte ∷ rest) most h (suc i) = IsAscii-digits radix rest most h.1 i

pub IsUtf8-digits : (radix : ℕ) (digits : List ℕ) → radix ≤ 36 → IsNumeral radix digits → IsUtf8 digits
IsUtf8-digits radix digits most h = IsUtf8-from_ascii digits (IsAscii-digits radix digits most h.1)

-- eight hexadecimal digits stay below 2^32
pub address_fits : (digits : List ℕ) → length digits ≡ 8 → IsNumeral 16 digits → digits_value 16 digits < 2 ^ 32
address_fits digits eight h = omega (arith, digits_value-lt 16 digits h.1, ap (λ n. 16 ^ n) eight)

-- a word of ten bytes is an address exactly if its digits are read
pub address_of_digits : (word digits : List ℕ) (r : Option ℕ) → word ≡ codes "0x" ++ digits → length word ≡ 10
    → MatchOption r (IsNumeral 16 digits → digits_value 16 digits < 2 ^ 32 → ⊥) (λ v. IsNumeral 16 digits × (v ≡ digits_value 16 digits))
    → MatchOption r ((address : ℕ) → IsAddress word address → ⊥) (λ address. IsAddress word address)
address_of_digits word digits None is ten none = λ address a.
    let same : a.value.digits ≡ digits = let e = a.value.bytes_are in cc in
    let numeral : IsNumeral 16 digits = subst (IsNumeral 16) same a.value.numeral in
    none numeral (address_fits digits (omega (arith, ap length is)) numeral)
address_of_digits word digits (Some v) is ten some = record {
  value = record { digits = digits; bytes_are = is; numeral = some.0; value_is = some.1 };
  eight = ten;
}
