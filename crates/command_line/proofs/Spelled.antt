-- How words are written that are an option, and those that are none.
use Rattle.std.proofs.Common.{◌≡◌, ◌==◌, ◌++◌, ◌∷◌, ◌<◌, [], ℕ, true, false, codes, length, slice_index, Option, Some, None, refl, ap, sym, ◌∙◌, suc, ◌+◌}
use Rattle.std.proofs.Common.{arith, inl, inr}
use Rattle.std.proofs.lemmas.Bool.{cases_Bool, eqb-true}
use Rattle.std.proofs.lemmas.Option.{same_Some}
use Rattle.std.proofs.lemmas.Slice.Eq.{bytes_eq-Decides}
use Rattle.std.specs.List.{before_first, after_first, position_or_len}
use Rattle.std.specs.Prelude.{option_and_then}
use Rattle.std.specs.Str.{bytes_eq}
use Rattle.clap.specs.Lexer.{long_of, long_of_rest, short_of, has_byte, name_and_value, strip_byte}
use Rattle.command_line.specs.Scan.{Text, dashes}

-- a text with `=` is the part before it, the byte, and the part after it
equals_parts : (t : Text) → has_byte 61 t ≡ true → t ≡ before_first (λ x. x == 61) t ++ 61 ∷ after_first (λ x. x == 61) t
equals_parts [] e = cc
equals_parts (x ∷ xs) e = elim (cases_Bool (x == 61)) [
  | inl hit ↦ rw (hit, eqb-true x 61 hit) refl
  | inr miss ↦
      let more : has_byte 61 xs ≡ true = rw miss at e in
      let place : position_or_len (λ y. y == 61) (x ∷ xs) ≡ suc (position_or_len (λ y. y == 61) xs) = rw miss (omega arith) in
      let next : suc (position_or_len (λ y. y == 61) xs) + 1 ≡ suc (position_or_len (λ y. y == 61) xs + 1) = omega arith in
      rw (place, next) (ap (λ (r : Text). x ∷ r) (equals_parts xs more))
]

value_text : (t : Text) (p : Text × Option Text) (v : Text) → name_and_value t ≡ p → p.1 ≡ Some v → t ≡ p.0 ++ 61 ∷ v
value_text t p v e has =
    let second : (name_and_value t).1 ≡ p.1 = ap (λ (q : Text × Option Text). q.1) e in
    elim (cases_Bool (has_byte 61 t)) [
      | inl hit ↦
          let kept : Some (after_first (λ x. x == 61) t) ≡ Some v = (rw hit at second) ∙ has in
          equals_parts t hit ∙ ap (λ (b : Text). b ++ 61 ∷ after_first (λ x. x == 61) t) (ap (λ (q : Text × Option Text). q.0) e)
          ∙ ap (λ (a : Text). p.0 ++ 61 ∷ a) (same_Some _ _ kept)
      | inr miss ↦ let bad : None ≡ Some v = (rw miss at second) ∙ has in cc
    ]

-- a text without `=` is the whole part before it
no_byte : (t : Text) → has_byte 61 t ≡ false → before_first (λ x. x == 61) t ≡ t
no_byte [] e = refl
no_byte (x ∷ xs) e = elim (cases_Bool (x == 61)) [
  | inl hit ↦ let bad : true ≡ false = rw hit at e in cc
  | inr miss ↦
      let more : has_byte 61 xs ≡ false = rw miss at e in
      let place : position_or_len (λ y. y == 61) (x ∷ xs) ≡ suc (position_or_len (λ y. y == 61) xs) = rw miss (omega arith) in
      rw place (ap (λ (r : Text). x ∷ r) (no_byte xs more))
]

name_text : (t : Text) (p : Text × Option Text) → name_and_value t ≡ p → p.1 ≡ None → t ≡ p.0
name_text t p e has =
    let second : (name_and_value t).1 ≡ p.1 = ap (λ (q : Text × Option Text). q.1) e in
    elim (cases_Bool (has_byte 61 t)) [
      | inl hit ↦ let bad : Some (after_first (λ x. x == 61) t) ≡ None = (rw hit at second) ∙ has in cc
      | inr miss ↦ sym (no_byte t miss) ∙ ap (λ (q : Text × Option Text). q.0) e
    ]

-- A word that begins as `--name` or `--name=value`.

pub record IsLong (w : Text) (p : Text × Option Text) : Type 0 where
  pub rest : Text
  pub word_is : w ≡ 45 ∷ 45 ∷ rest
  pub parts : name_and_value rest ≡ p

long_behind : (t : Text) (p : Text × Option Text) → long_of_rest t ≡ Some p → name_and_value t ≡ p
long_behind [] p e = cc
long_behind (x ∷ xs) p e = same_Some _ _ e

long_second : (x y : ℕ) (ys : Text) (p : Text × Option Text) → x ≡ 45 → option_and_then long_of_rest (strip_byte 45 (y ∷ ys)) ≡ Some p → IsLong (x ∷ y ∷ ys) p
long_second x y ys p x_is e = elim (cases_Bool (y == 45)) [
  | inl hit ↦ record {
    rest = ys;
    word_is = rw (x_is, eqb-true y 45 hit) refl;
    parts = long_behind ys p (rw hit at e);
  }
  | inr miss ↦ let bad : None ≡ Some p = rw miss at e in cc
]

pub long_text : (w : Text) (p : Text × Option Text) → long_of w ≡ Some p → IsLong w p
long_text [] p e = cc
long_text (x ∷ []) p e = elim (cases_Bool (x == 45)) [
  | inl hit ↦ let bad : None ≡ Some p = rw hit at e in cc
  | inr miss ↦ let bad : None ≡ Some p = rw miss at e in cc
]
long_text (x ∷ y ∷ ys) p e = elim (cases_Bool (x == 45)) [
  | inl hit ↦ long_second x y ys p (eqb-true x 45 hit) (rw hit at e)
  | inr miss ↦ let bad : None ≡ Some p = rw miss at e in cc
]

-- the flag without a value
pub flag_is : (w : Text) (nm : Text) → long_of w ≡ Some (nm, None) → bytes_eq (codes "raw-at") nm ≡ true → w ≡ codes "--raw-at"
flag_is w nm e named =
    let long = long_text w (nm, None) e in
    let name : codes "raw-at" ≡ nm = (bytes_eq-Decides (codes "raw-at") nm).0 named in
    long.word_is ∙ ap (λ (r : Text). 45 ∷ 45 ∷ r) (name_text long.rest (nm, None) long.parts refl ∙ sym name)

-- the flag with its value in the same word
pub attached_is : (w nm v : Text) → long_of w ≡ Some (nm, Some v) → bytes_eq (codes "raw-at") nm ≡ true → w ≡ codes "--raw-at=" ++ v
attached_is w nm v e named =
    let long = long_text w (nm, Some v) e in
    let name : codes "raw-at" ≡ nm = (bytes_eq-Decides (codes "raw-at") nm).0 named in
    long.word_is ∙ ap (λ (r : Text). 45 ∷ 45 ∷ r) (value_text long.rest (nm, Some v) v long.parts refl ∙ ap (λ (b : Text). b ++ 61 ∷ v) (sym name))

-- Words that are no option.

-- what `clap` finds in a word that is no option
pub record IsUnflagged (w : Text) : Type 0 where
  pub others : bytes_eq w dashes ≡ false
  pub long : long_of w ≡ None
  pub short : short_of w ≡ None

-- a word of at most one byte, or with a first byte other than a hyphen
pub unflagged : (w : Text) → (slice_index w 0 ≡ 45 → 1 < length w → ⊥) → IsUnflagged w
unflagged [] plain = record { others = refl; long = refl; short = refl }
unflagged (x ∷ []) plain = elim (cases_Bool (x == 45)) [
  | inl hit ↦ record { others = rw hit refl; long = rw hit refl; short = rw hit refl }
  | inr miss ↦ record { others = rw miss refl; long = rw miss refl; short = rw miss refl }
]
unflagged (x ∷ y ∷ ys) plain = elim (cases_Bool (x == 45)) [
  | inl hit ↦ absurd (plain (eqb-true x 45 hit) (omega arith))
  | inr miss ↦ record { others = rw miss refl; long = rw miss refl; short = rw miss refl }
]

-- a word that isn't a flag doesn't begin with a hyphen and have more after it
pub no_flag : (w : Text) → IsUnflagged w → slice_index w 0 ≡ 45 → 1 < length w → ⊥
no_flag [] is first long = omega (arith, long)
no_flag (x ∷ []) is first long = omega (arith, long)
no_flag (x ∷ y ∷ []) is first long = elim (cases_Bool (y == 45)) [
  | inl hit ↦ let bad : true ≡ false = rw (first, hit) at is.others in absurd (cc)
  | inr miss ↦ let bad : Some (y ∷ []) ≡ None = rw (first, miss) at is.short in absurd (cc)
]
no_flag (x ∷ y ∷ z ∷ zs) is first long = elim (cases_Bool (y == 45)) [
  | inl hit ↦ let bad : Some (name_and_value (z ∷ zs)) ≡ None = rw (first, hit) at is.long in absurd (cc)
  | inr miss ↦ let bad : Some (y ∷ z ∷ zs) ≡ None = rw (first, miss) at is.short in absurd (cc)
]
