-- A word that is text and begins with one hyphen has a character after it.
use Rattle.std.proofs.Common.{◌≡◌, ◌==◌, ℕ, true, List, [], ◌∷◌, Some, None, refl, ap, ◌∙◌, sym, slice_get, inl, inr, zero, suc, ◌<◌, ◌+◌, length, get_or, take}
use Rattle.std.proofs.Common.{subst, arith}
use Rattle.std.proofs.lemmas.Bool.{cases_Bool, eqb-true}
use Rattle.std.proofs.lemmas.Option.{same_Some}
use Rattle.std.proofs.lemmas.Str.{chars-encodes, cons_from_encodes}
use Rattle.std.specs.Str.{IsUtf8, chars, encode_utf8_all}
use lib.Utf8.{scalars}
use Rattle.clap.specs.Lexer.{short_of, short_of_rest}
use Rattle.command_line.specs.Scan.{Text, AreTexts}
use Rattle.command_line.proofs.LeafWalk.{Short, Shorts}

-- what follows the hyphen isn't empty
abbrev Behind : Text → Text → Type 0
Behind xs flags = (xs ≡ flags) × (y : ℕ) × (ys : Text) × (flags ≡ y ∷ ys)

rest_text : (xs flags : Text) → short_of_rest xs ≡ Some flags → Behind xs flags
rest_text [] flags e = cc
rest_text (y ∷ ys) flags e = elim (cases_Bool (y == 45)) [
  | inl hit ↦ let bad : None ≡ Some flags = rw hit at e in cc
  | inr miss ↦
      let same : Some (y ∷ ys) ≡ Some flags = rw miss at e in
      (same_Some _ _ same, y, ys, sym (same_Some _ _ same))
]

short_text : (w flags : Text) → short_of w ≡ Some flags → (w ≡ 45 ∷ flags) × (y : ℕ) × (ys : Text) × (flags ≡ y ∷ ys)
short_text [] flags e = cc
short_text (x ∷ xs) flags e = elim (cases_Bool (x == 45)) [
  | inl hit ↦
      let more : short_of_rest xs ≡ Some flags = rw hit at e in
      let behind = rest_text xs flags more in
      (rw (eqb-true x 45 hit, behind.0) refl, behind.1, behind.2, behind.3)
  | inr miss ↦ let bad : None ≡ Some flags = rw miss at e in cc
]

first_of : (es : List ℕ) (y : ℕ) (ys : Text) → encode_utf8_all es ≡ y ∷ ys → (x : ℕ) × (slice_get es 0 ≡ Some x)
first_of [] y ys e = cc
first_of (c ∷ es) y ys e = (c, refl)

pub IsUtf8-Short : (w : Text) → IsUtf8 w → Short w
unfolding lib.Utf8.encode
IsUtf8-Short w (cs, both) = λ flags e.
    let parts = short_text w flags e in
    let behind = cons_from_encodes cs flags 45 (both.1 ∙ parts.0) in
    let scalars_left : scalars behind.0 ≡ true = rw behind.1 at both.0 in
    let chars_are : chars flags ≡ behind.0 = ap chars (sym behind.2) ∙ chars-encodes behind.0 scalars_left in
    let first = first_of behind.0 parts.1 parts.2 (behind.2 ∙ parts.3) in
    (first.0, ap (λ (t : List ℕ). slice_get t 0) chars_are ∙ first.1)

pub AreTexts-Shorts : (ws : List Text) → AreTexts ws → Shorts ws
AreTexts-Shorts [] h = tt
AreTexts-Shorts (w ∷ ws) h = (IsUtf8-Short w h.0, AreTexts-Shorts ws h.1)

pub AreTexts-more : (ws : List Text) (i : ℕ) (w : Text) → i < length ws → w ≡ get_or ws i w → AreTexts (take i ws) → IsUtf8 w → AreTexts (take (i + 1) ws)
AreTexts-more [] i w lt at h u = absurd (omega arith)
AreTexts-more (x ∷ ws) zero w lt at h u = (subst IsUtf8 at u, tt)
AreTexts-more (x ∷ ws) (suc i) w lt at h u =
    let next : suc i + 1 ≡ suc (i + 1) = omega arith in
    rw next (h.0, AreTexts-more ws i w (omega arith) at h.1 u)
