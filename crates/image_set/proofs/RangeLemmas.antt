-- Images in ranges of addresses.
use Rattle.std.proofs.Common.{◌≡◌, ◌≢◌, ⊎_elim, ◌≤◌, ◌<◌, ◌^◌, ◌∙◌, ℕ, suc, List, [], ◌∷◌, length, get_or, Option, Some, None, Bool, true, false, refl, ap}
use Rattle.std.proofs.Common.{subst, arith}
use Rattle.std.specs.Prelude.{IsTrue, IsSome, ◌||◌}
use Rattle.std.proofs.lemmas.Bool.{cases_lt}
use Rattle.byte_map.specs.Image.{Run, run_at, end_of, holds, byte_at, AreMaximal}
use Rattle.byte_map.proofs.Runs.{holds_between, held_from, held_to, rising, found_in, holder}
use Rattle.image_set.specs.Ranges.{is_in_range, is_inside, LiesInside, IsLeastOutside, IsOutside}

pub none_inside : (ranges : List (ℕ × ℕ)) (a : ℕ) → ((k : ℕ) → k < length ranges → is_in_range (get_or ranges k (0, 0)) a ≡ false) → is_inside ranges a ≡ false
none_inside [] a none = refl
none_inside (r ∷ rs) a none =
    ap (λ (b : Bool). b || is_inside rs a) (none 0 (omega arith)) ∙ none_inside rs a (λ k lt. none (suc k) (omega arith))

value_of : (o : Option ℕ) → IsSome o → (x : ℕ) × (o ≡ Some x)
value_of None is = absurd (cc)
value_of (Some x) is = (x, refl)

-- each of the first `n` runs is within the ranges
abbrev pub LieBefore : List Run → List (ℕ × ℕ) → ℕ → Type 0
LieBefore runs ranges n = (k : ℕ) → k < n → (a : ℕ) → (run_at runs k).at ≤ a → a < end_of (run_at runs k) → IsTrue (is_inside ranges a)

pub all_inside : (runs : List Run) (ranges : List (ℕ × ℕ)) → runs ≢ [] → LieBefore runs ranges (length runs) → LiesInside runs ranges
all_inside runs ranges some each =
    record {
      some = some;
      inside = λ a is.
          let (byte, byte_is) = value_of (byte_at runs a) is in
          let (k, lt, held, of) = holder runs a byte byte_is in
          each k lt a (held_from (run_at runs k) a held) (held_to (run_at runs k) a held);
    }

inside_below : (runs : List Run) (ranges : List (ℕ × ℕ)) (k at a j : ℕ) → AreMaximal 0 (2 ^ 32) runs → k < length runs → LieBefore runs ranges k →
    IsOutside (run_at runs k).at (end_of (run_at runs k)) ranges at → a < at → j < length runs → holds (run_at runs j) a ≡ true → IsTrue (is_inside ranges a)
inside_below runs ranges k at a j m lt each outside below within held =
    let from = held_from (run_at runs j) a held in
    let to = held_to (run_at runs j) a held in
    let high = outside.high in
    ⊎_elim (λ (less : j < k). each j less a from to)
    (λ (ge : k ≤ j). ⊎_elim
    (λ (more : k < j). let up = rising 0 (2 ^ 32) runs k j m more within in absurd (omega (arith, up, from, high)))
    (λ (le : j ≤ k).
    let is : j ≡ k = omega arith in
    outside.first a (subst (λ (n : ℕ). (run_at runs n).at ≤ a) is from) below)
    (cases_lt k j))
    (cases_lt j k)

-- the least address of a run that is in no range, where the runs before it are within the ranges
pub least_outside : (runs : List Run) (ranges : List (ℕ × ℕ)) (k at : ℕ) → AreMaximal 0 (2 ^ 32) runs → k < length runs → LieBefore runs ranges k →
    IsOutside (run_at runs k).at (end_of (run_at runs k)) ranges at → IsLeastOutside runs ranges at
least_outside runs ranges k at m lt each outside =
    record {
      held = rw (found_in 0 (2 ^ 32) runs k at m lt (holds_between (run_at runs k) at outside.low outside.high)) refl;
      outside = outside.outside;
      first = λ a below is.
          let (byte, byte_is) = value_of (byte_at runs a) is in
          let (j, within, held, of) = holder runs a byte byte_is in
          inside_below runs ranges k at a j m lt each outside below within held;
    }
