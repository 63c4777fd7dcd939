-- Lemmas on what words are.
use Rattle.std.proofs.Common.{◌≡◌, ◌≢◌, ◌≤◌, ◌<◌, ◌+◌, ◌^◌, ◌∙◌, ◌⊎◌, inl, inr, ⊎_elim, sym, ap, subst, refl, ℕ, suc, zero, ◌==◌, ◌&&◌, if◌then◌else◌, Bool}
use Rattle.std.proofs.Common.{true, false, List, [], ◌∷◌, ◌++◌, codes, length, take, drop, arith, lit<, Option, Some, None, MatchOption, eqb, eqb-true, eq-eqb}
use Rattle.std.proofs.Common.{ne_eqb, ltb-true, lt-ltb, nat_lt}
use Rattle.std.proofs.lemmas.Bool.Decides.{eqb_tells}
use Rattle.std.specs.List.{list_all, find, range_with_len}
use Rattle.std.specs.Fmt.{digits}
use Rattle.std.specs.Char.{digit_value}
use Rattle.std.specs.Str.Parse.{AllDigits, IsNumeral, digits_value}
use Rattle.armv6m_forms.specs.Text.{register_text, special_text, IsSpecial}
use Rattle.armv6m_asm.specs.Statement.{IsHexadecimal, IsDecimal, IsNumber}
use Rattle.armv6m_asm.specs.Reading.{is_text, value_of, number_in, register_of, special_of}

-- ---- texts

-- the two parts of a test that passes
both : (a b : Bool) → a && b ≡ true → (a ≡ true) × (b ≡ true)
both true true h = (refl, refl)
both true false h = absurd (cc)
both false b h = absurd (cc)

pub same_text : (text bytes : List ℕ) → is_text text bytes ≡ true → text ≡ bytes
same_text [] [] h = refl
same_text [] (byte ∷ bytes) h = absurd (cc)
same_text (byte ∷ text) [] h = absurd (cc)
same_text (byte ∷ text) (other ∷ bytes) h =
    let parts = both (byte == other) (is_text text bytes) h in
    let first = eqb-true byte other parts.0 in
    let rest = same_text text bytes parts.1 in
    cc

pub is_text-self : (text : List ℕ) → is_text text text ≡ true
is_text-self [] = refl
is_text-self (byte ∷ text) = rw (eq-eqb byte byte refl) (is_text-self text)

-- ---- the first number with a text

-- a property holds of each number of a list
abbrev pub Each : (ℕ → Type 0) → List ℕ → Type 0
Each P [] = Unit {0}
Each P (n ∷ numbers) = P n × Each P numbers

found_at : (P : ℕ → Type 0) (test : ℕ → Bool) (m n : ℕ) (rest : Option ℕ) (v : Bool) → P m → (rest ≡ Some n → P n × (test n ≡ true))
    → test m ≡ v → (if v then Some m else rest) ≡ Some n → P n × (test n ≡ true)
found_at P test m n rest true here later passes is = let same : m ≡ n = cc in (subst P same here, ap test (sym same) ∙ passes)
found_at P test m n rest false here later fails is = later is

pub found : (P : ℕ → Type 0) (test : ℕ → Bool) (numbers : List ℕ) (n : ℕ) → Each P numbers → find test numbers ≡ Some n → P n × (test n ≡ true)
found P test [] n each is = absurd (cc)
found P test (m ∷ numbers) n each is = found_at P test m n (find test numbers) (test m) each.0 (found P test numbers n each.1) refl is

-- ---- registers

numbers_below : Each (λ r. r < 16) (range_with_len 0 16)
numbers_below = (
  lit< tt,
  (
    lit< tt,
    (
      lit< tt,
      (
        lit< tt,
        (
          lit< tt,
          (
            lit< tt,
            (lit< tt, (lit< tt, (lit< tt, (lit< tt, (lit< tt, (lit< tt, (lit< tt, (lit< tt, (lit< tt, (lit< tt, tt)))))))))),
          ),
        ),
      ),
    ),
  ),
)

pub register_of-is : (bytes : List ℕ) (r : ℕ) → register_of bytes ≡ Some r → (register_text r ≡ bytes) × (r < 16)
unfolding register_of
register_of-is bytes r is =
    let it = found (λ r. r < 16) (λ r. is_text (register_text r) bytes) (range_with_len 0 16) r numbers_below is in
    (same_text (register_text r) bytes it.1, it.0)

-- a property of each number of a range holds of one in it
pub each_in : (P : ℕ → Type 0) (n a r : ℕ) → Each P (range_with_len a n) → a ≤ r → r < a + n → P r
each_in P zero a r each low high = absurd (omega arith)
each_in P (suc n) a r each low high = ⊎_elim
    (λ (same : (eqb a r ≡ true) × (a ≡ r)). subst P same.1 each.0)
    (λ (other : (eqb a r ≡ false) × (a ≢ r)). let differ = other.1 in each_in P n (a + 1) r each.1 (omega arith) (omega arith))
    (eqb_tells a r)

pub each_register : (P : ℕ → Type 0) → Each P (range_with_len 0 16) → (r : ℕ) → r < 16 → P r
each_register P each r below = each_in P 16 0 r each (omega arith) (omega arith)

pub register_of-text : (r : ℕ) → r < 16 → register_of (register_text r) ≡ Some r
unfolding register_of register_text digits
register_of-text = each_register (λ r. register_of (register_text r) ≡ Some r)
    (refl, (refl, (refl, (refl, (refl, (refl, (refl, (refl, (refl, (refl, (refl, (refl, (refl, (refl, (refl, (refl, tt))))))))))))))))

pub number_in-register : (r : ℕ) → r < 16 → number_in (register_text r) ≡ None
unfolding number_in value_of register_text digits
number_in-register = each_register (λ r. number_in (register_text r) ≡ None)
    (refl, (refl, (refl, (refl, (refl, (refl, (refl, (refl, (refl, (refl, (refl, (refl, (refl, (refl, (refl, (refl, tt))))))))))))))))

-- ---- special registers

specials_known : Each IsSpecial (0 ∷ 8 ∷ 16 ∷ [])
specials_known = (inl refl, (inr (inl refl), (inr (inr refl), tt)))

pub special_of-is : (bytes : List ℕ) (s : ℕ) → special_of bytes ≡ Some s → (special_text s ≡ bytes) × IsSpecial s
unfolding special_of
special_of-is bytes s is =
    let it = found IsSpecial (λ s. is_text (special_text s) bytes) (0 ∷ 8 ∷ 16 ∷ []) s specials_known is in
    (same_text (special_text s) bytes it.1, it.0)

each_special : (P : ℕ → Type 0) → P 0 → P 8 → P 16 → (s : ℕ) → IsSpecial s → P s
each_special P a b c s known =
    ⊎_elim (λ (is : s ≡ 0). subst P (sym is) a) (λ (known : (s ≡ 8) ⊎ (s ≡ 16)). ⊎_elim (λ (is : s ≡ 8). subst P (sym is) b)
    (λ (is : s ≡ 16). subst P (sym is) c) known) known

pub special_of-text : (s : ℕ) → IsSpecial s → special_of (special_text s) ≡ Some s
unfolding special_of special_text digits
special_of-text = each_special (λ s. special_of (special_text s) ≡ Some s) refl refl refl

pub number_in-special : (s : ℕ) → IsSpecial s → number_in (special_text s) ≡ None
unfolding number_in value_of special_text digits
number_in-special = each_special (λ s. number_in (special_text s) ≡ None) refl refl refl

pub register_of-special : (s : ℕ) → IsSpecial s → register_of (special_text s) ≡ None
unfolding register_of register_text special_text digits
register_of-special = each_special (λ s. register_of (special_text s) ≡ None) refl refl refl

-- ---- `i`

pub number_in-i : number_in (codes "i") ≡ None
unfolding number_in value_of
number_in-i = refl

pub register_of-i : register_of (codes "i") ≡ None
unfolding register_of register_text digits
register_of-i = refl

pub special_of-i : special_of (codes "i") ≡ None
unfolding special_of special_text digits
special_of-i = refl

-- ---- numbers

and_false : (b : Bool) → b && false ≡ false
and_false true = refl
and_false false = refl

passes_digits : (radix : ℕ) (digits : List ℕ) → AllDigits radix digits → list_all (λ byte. nat_lt (digit_value byte) radix) digits ≡ true
passes_digits radix [] all = refl
passes_digits radix (byte ∷ rest) all = rw (lt-ltb (digit_value byte) radix all.0) (passes_digits radix rest all.1)

digits_pass : (radix : ℕ) (digits : List ℕ) → list_all (λ byte. nat_lt (digit_value byte) radix) digits ≡ true → AllDigits radix digits
digits_pass radix [] h = tt
digits_pass radix (byte ∷ rest) h =
    let parts = both (nat_lt (digit_value byte) radix) (list_all (λ byte. nat_lt (digit_value byte) radix) rest) h in
    (ltb-true (digit_value byte) radix parts.0, digits_pass radix rest parts.1)

value_of-numeral : (radix : ℕ) (digits : List ℕ) → IsNumeral radix digits → digits_value radix digits < 2 ^ 32
    → value_of radix digits ≡ Some (digits_value radix digits)
unfolding value_of
value_of-numeral radix digits numeral small =
    rw (lt-ltb 0 (length digits) numeral.0, passes_digits radix digits numeral.1, lt-ltb (digits_value radix digits) (2 ^ 32) small) refl

-- a choice that gives a number was made
chosen : (v : Bool) (n m : ℕ) → (if v then Some n else None) ≡ Some m → (v ≡ true) × (m ≡ n)
chosen true n m is = (refl, cc)
chosen false n m is = absurd (cc)

value_of-is : (radix : ℕ) (digits : List ℕ) (value : ℕ) → value_of radix digits ≡ Some value
    → IsNumeral radix digits × (value ≡ digits_value radix digits) × (value < 2 ^ 32)
unfolding value_of
value_of-is radix digits value is =
    let some = nat_lt 0 (length digits) in
    let all = list_all (λ byte. nat_lt (digit_value byte) radix) digits in
    let small = nat_lt (digits_value radix digits) (2 ^ 32) in
    let it = chosen (some && (all && small)) (digits_value radix digits) value is in
    let parts = both some (all && small) it.0 in
    let more = both all small parts.1 in
    let fits = ltb-true (digits_value radix digits) (2 ^ 32) more.1 in
    ((ltb-true 0 (length digits) parts.0, digits_pass radix digits more.0), it.1, omega (arith, it.1, fits))

-- decimal digits don't begin with `0x`
not_hexadecimal : (bytes : List ℕ) → AllDigits 10 bytes → is_text (codes "0x") (take 2 bytes) ≡ false
not_hexadecimal [] all = refl
not_hexadecimal (a ∷ []) all = and_false (48 == a)
not_hexadecimal (a ∷ b ∷ rest) all =
    let other : (120 == b) ≡ false = ne_eqb 120 b (λ same. absurd (omega (arith, subst (λ n. digit_value n < 10) (sym same) all.1.0))) in
    rw other (and_false (48 == a))

pub number_in-number : (bytes : List ℕ) (value : ℕ) → IsNumber bytes value → number_in bytes ≡ Some value
unfolding number_in
number_in-number bytes value is = ⊎_elim
    (λ (decimal : IsDecimal bytes value). rw (not_hexadecimal bytes decimal.numeral.1)
    (value_of-numeral 10 bytes decimal.numeral (omega (arith, decimal.value_is, is.1)) ∙ ap Some (sym decimal.value_is)))
    (λ (hexadecimal : IsHexadecimal bytes value). rw hexadecimal.bytes_are
    (value_of-numeral 16 hexadecimal.digits hexadecimal.numeral (omega (arith, hexadecimal.value_is, is.1)) ∙ ap Some (sym hexadecimal.value_is)))
    is.0

beginning : (bytes : List ℕ) → codes "0x" ≡ take 2 bytes → bytes ≡ codes "0x" ++ drop 2 bytes
beginning [] is = absurd (cc)
beginning (a ∷ []) is = absurd (cc)
beginning (a ∷ b ∷ rest) is = let first : a ≡ 48 = cc in let second : b ≡ 120 = cc in cc

number_at : (v : Bool) (bytes : List ℕ) (value : ℕ) → is_text (codes "0x") (take 2 bytes) ≡ v
    → (if v then value_of 16 (drop 2 bytes) else value_of 10 bytes) ≡ Some value → IsNumber bytes value
number_at true bytes value v is =
    let it = value_of-is 16 (drop 2 bytes) value is in
    (inr (record { digits = drop 2 bytes; bytes_are = beginning bytes (same_text (codes "0x") (take 2 bytes) v); numeral = it.0; value_is = it.1 }), it.2)
number_at false bytes value v is =
    let it = value_of-is 10 bytes value is in
    (inl (record { numeral = it.0; value_is = it.1 }), it.2)

pub number_in-is : (bytes : List ℕ) (value : ℕ) → number_in bytes ≡ Some value → IsNumber bytes value
unfolding number_in
number_in-is bytes value is = number_at (is_text (codes "0x") (take 2 bytes)) bytes value refl is

-- ---- what a reader's answer says

-- a reader finds nothing if each value that it could find is excluded
none_found : (found : Option ℕ) → ((n : ℕ) → found ≡ Some n → ⊥) → found ≡ None
none_found None never = refl
none_found (Some n) never = absurd (never n refl)

pub number_in-answer : (bytes : List ℕ) (r : Option ℕ) → MatchOption r ((value : ℕ) → IsNumber bytes value → ⊥) (λ value. IsNumber bytes value) →
    number_in bytes ≡ r
number_in-answer bytes None none = none_found (number_in bytes) (λ n is. none n (number_in-is bytes n is))
number_in-answer bytes (Some value) is = number_in-number bytes value is

pub register_of-none : (bytes : List ℕ) → ((r : ℕ) → r < 16 → register_text r ≢ bytes) → register_of bytes ≡ None
register_of-none bytes none = none_found (register_of bytes) (λ r is. let it = register_of-is bytes r is in none r it.1 it.0)

pub special_of-none : (bytes : List ℕ) → ((s : ℕ) → IsSpecial s → special_text s ≢ bytes) → special_of bytes ≡ None
special_of-none bytes none = none_found (special_of bytes) (λ s is. let it = special_of-is bytes s is in none s it.1 it.0)
