-- Tests of a range and of numbers below a bound: from an element, and back to one; and counts.
use Rattle.std.proofs.Common.{◌≡◌, ℕ, zero, suc, ◌+◌, ◌<◌, ◌≤◌, Bool, true, false, not, ◌&&◌, ◌||◌, nat_eq, nat_le, refl, subst, arith, slice_index, eq-eqb}
use Rattle.std.proofs.Common.{List, inl, inr, ◌⊎◌, sym, ◌∙◌}
use Rattle.std.proofs.lemmas.Bool.{false≢true, or_cases, or_left, or_right, and_from, and_parts, cases_lt, cases_Bool, cases_eq, le-leb, leb-true, eqb-false}
use Rattle.std.proofs.lemmas.Bool.{ne_eqb, not-true, not_from_false, both_ways, false_from_ne_true}
use Rattle.flm_descriptor.specs.Shape.{Range}
use Rattle.page_geometry.specs.Geometry.{In}
use Rattle.page_geometry.specs.Cells.{some_below, count_below, some_in, is_used, differs, IsEmpty}

pub same_tests : (a b : Bool) → (a ≡ true → b ≡ true) → (b ≡ true → a ≡ true) → a ≡ b
same_tests a b f g = elim (cases_Bool a) [
  | inl is ↦ is ∙ sym (f is)
  | inr isnt ↦ isnt ∙ sym (false_from_ne_true b (λ e. both_ways a isnt (g e)))
]

pub some_below_from : (n : ℕ) (t : ℕ → Bool) (i : ℕ) → i < n → t i ≡ true → some_below n t ≡ true
unfolding some_below
some_below_from zero t i h e = absurd (omega arith)
some_below_from (suc n) t i h e =
    elim (cases_lt i n) [
      | inl lt ↦ or_left _ _ (some_below_from n t i lt e)
      | inr ge ↦ let same : i ≡ n = omega arith in or_right _ _ (subst (λ (k : ℕ). t k ≡ true) same e)
    ]

pub some_below_at : (n : ℕ) (t : ℕ → Bool) → some_below n t ≡ true → (i : ℕ) × (i < n) × (t i ≡ true)
unfolding some_below
some_below_at zero t e = absurd (false≢true e)
some_below_at (suc n) t e =
    elim (or_cases _ _ e) [
      | inl a ↦ (let x : (i : ℕ) × (i < n) × (t i ≡ true) = some_below_at n t a in (x.0, omega (arith, x.1), x.2))
      | inr b ↦ (n, omega arith, b)
    ]

pub some_below_same : (n : ℕ) (t u : ℕ → Bool) → ((k : ℕ) → k < n → t k ≡ u k) → some_below n t ≡ some_below n u
unfolding some_below
some_below_same zero t u h = refl
some_below_same (suc n) t u h =
    let before = some_below_same n t u (λ k l. h k (omega arith)) in let last = h n (omega arith) in cc

-- a place is in a range or not
pub cases_in : (i : ℕ) (r : Range) → In i r ⊎ (In i r → ⊥)
cases_in i r =
    elim (cases_lt i r.start) [
      | inl before ↦ inr (λ h. omega (arith, before, h.0))
      | inr after ↦ elim (cases_lt i r.stop) [ inl under ↦ inl (after, under) | inr over ↦ inr (λ h. omega (arith, over, h.1)) ]
    ]

pub some_in_from : (r : Range) (t : ℕ → Bool) (i : ℕ) → In i r → t i ≡ true → some_in r t ≡ true
unfolding some_in
some_in_from r t i h e =
    some_below_from r.stop (λ k. nat_le r.start k && t k) i h.1 (and_from _ _ (le-leb _ _ h.0) e)

pub some_in_at : (r : Range) (t : ℕ → Bool) → some_in r t ≡ true → (i : ℕ) × In i r × (t i ≡ true)
unfolding some_in
some_in_at r t e =
    let x : (i : ℕ) × (i < r.stop) × ((nat_le r.start i && t i) ≡ true) = some_below_at r.stop (λ k. nat_le r.start k && t k) e in
    let both : (nat_le r.start x.0 ≡ true) × (t x.0 ≡ true) = and_parts _ _ x.2 in
    (x.0, (leb-true _ _ both.0, x.1), both.1)

pub differs_from : (r : Range) (old want : List ℕ) (i : ℕ) → In i r → (slice_index old i ≡ slice_index want i → ⊥) → differs r old want ≡ true
unfolding differs
differs_from r old want i h n =
    some_in_from r (λ k. not (nat_eq (slice_index old k) (slice_index want k))) i h (not_from_false _ (ne_eqb _ _ n))

pub differs_at : (r : Range) (old want : List ℕ) → differs r old want ≡ true → (i : ℕ) × In i r × (slice_index old i ≡ slice_index want i → ⊥)
unfolding differs
differs_at r old want e =
    let x : (i : ℕ) × In i r × (not (nat_eq (slice_index old i) (slice_index want i)) ≡ true) =
    some_in_at r (λ k. not (nat_eq (slice_index old k) (slice_index want k))) e in
    (x.0, x.1, eqb-false _ _ (not-true _ x.2))

pub same_in : (r : Range) (old want : List ℕ) → differs r old want ≡ false → (i : ℕ) → In i r → slice_index old i ≡ slice_index want i
same_in r old want e i h =
    elim (cases_eq (slice_index old i) (slice_index want i)) [
      | inl same ↦ same
      | inr n ↦ absurd (both_ways _ e (differs_from r old want i h n))
    ]

pub used_from : (empty : ℕ) (r : Range) (cells : List ℕ) (i : ℕ) → In i r → (slice_index cells i ≡ empty → ⊥) → is_used empty r cells ≡ true
unfolding is_used
used_from empty r cells i h n =
    some_in_from r (λ k. not (nat_eq (slice_index cells k) empty)) i h (not_from_false _ (ne_eqb _ _ n))

pub used_at : (empty : ℕ) (r : Range) (cells : List ℕ) → is_used empty r cells ≡ true → (i : ℕ) × In i r × (slice_index cells i ≡ empty → ⊥)
unfolding is_used
used_at empty r cells e =
    let x : (i : ℕ) × In i r × (not (nat_eq (slice_index cells i) empty) ≡ true) =
    some_in_at r (λ k. not (nat_eq (slice_index cells k) empty)) e in
    (x.0, x.1, eqb-false _ _ (not-true _ x.2))

pub unused : (empty : ℕ) (r : Range) (cells : List ℕ) → is_used empty r cells ≡ false → IsEmpty empty r cells
unused empty r cells e i h =
    elim (cases_eq (slice_index cells i) empty) [
      | inl same ↦ same
      | inr n ↦ absurd (both_ways _ e (used_from empty r cells i h n))
    ]

-- ---- counts

pub count_below_same : (n : ℕ) (t u : ℕ → Bool) → ((k : ℕ) → k < n → t k ≡ u k) → count_below n t ≡ count_below n u
unfolding count_below
count_below_same zero t u h = refl
count_below_same (suc n) t u h =
    let before = count_below_same n t u (λ k l. h k (omega arith)) in let last = h n (omega arith) in cc

pub count_below_le : (n : ℕ) (s t : ℕ → Bool) → ((k : ℕ) → k < n → s k ≡ true → t k ≡ true) → count_below n s ≤ count_below n t
unfolding count_below
count_below_le zero s t h = omega arith
count_below_le (suc n) s t h =
    let before : count_below n s ≤ count_below n t = count_below_le n s t (λ k l. h k (omega arith)) in
    elim (cases_Bool (s n)) [
      | inl is ↦ (let also : t n ≡ true = h n (omega arith) is in rw (is, also) (omega arith))
      | inr isnt ↦ rw isnt (omega arith)
    ]

pub count_below_or : (n : ℕ) (s t : ℕ → Bool) → count_below n (λ k. s k || t k) ≤ count_below n s + count_below n t
unfolding count_below
count_below_or zero s t = omega arith
count_below_or (suc n) s t =
    let before : count_below n (λ k. s k || t k) ≤ count_below n s + count_below n t = count_below_or n s t in
    elim (cases_Bool (s n)) [
      | inl is ↦ rw is (omega arith)
      | inr isnt ↦ rw isnt (omega arith)
    ]

pub count_below_none : (n : ℕ) (t : ℕ → Bool) → ((k : ℕ) → k < n → t k ≡ false) → count_below n t ≡ 0
unfolding count_below
count_below_none zero t h = refl
count_below_none (suc n) t h =
    let before : count_below n t ≡ 0 = count_below_none n t (λ k l. h k (omega arith)) in
    let last : t n ≡ false = h n (omega arith) in
    rw (before, last) refl

pub count_below_one : (n j : ℕ) → count_below n (λ k. nat_eq k j) ≤ 1
unfolding count_below
count_below_one zero j = omega arith
count_below_one (suc n) j =
    elim (cases_eq n j) [
      | inl same ↦
          (let none : count_below n (λ k. nat_eq k j) ≡ 0 = count_below_none n (λ k. nat_eq k j) (λ k l. ne_eqb _ _ (λ e. omega arith)) in
          let test : nat_eq n j ≡ true = eq-eqb _ _ same in rw (none, test) (omega arith))
      | inr n' ↦
          (let test : nat_eq n j ≡ false = ne_eqb _ _ n' in
          let before : count_below n (λ k. nat_eq k j) ≤ 1 = count_below_one n j in rw test (omega arith))
    ]
