-- Laws of the least number that passes a test, for sections and symbols, which are the first that fit.
use Rattle.std.proofs.Common.{◌≡◌, ℕ, ◌+◌, ◌-◌, ◌<◌, ◌≤◌, Bool, true, false, List, [], ◌∷◌, ◌++◌, cond, Option, Some, None, refl, sym, ap, ◌∙◌, arith, suc}
use Rattle.std.proofs.Common.{zero, zero-add, add-zero, inl, inr, ◌⊎◌, ⊎_elim}
use Rattle.std.specs.Option.{option_or}
use Rattle.std.specs.Prelude.{map}
use Rattle.std.specs.List.{range_with_len}
use Rattle.std.proofs.lemmas.Bool.{cases_lt}
use Rattle.std.proofs.lemmas.List.Folds.{find-append}
use Rattle.std.proofs.lemmas.List.FromFn.{map-range_with_len_more}
use Rattle.elf32.specs.Search.{first_below, IsLeast}

map_same : (xs : List ℕ) → map (λ x. x) xs ≡ xs
map_same [] = refl
map_same (x ∷ xs) = ap (λ (r : List ℕ). x ∷ r) (map_same xs)

range_more : (n : ℕ) → range_with_len 0 (n + 1) ≡ range_with_len 0 n ++ n ∷ []
range_more n =
    sym (map_same (range_with_len 0 (n + 1))) ∙ map-range_with_len_more (λ x. x) 0 n n (zero-add n)
    ∙ rw (map_same (range_with_len 0 n)) refl

-- the search below n + 1, by the search below n and the test of n
pub first_below-more : (p : ℕ → Bool) (n : ℕ) → first_below p (n + 1) ≡ option_or (first_below p n) (cond (p n) (Some n) None)
unfolding first_below
first_below-more p n = rw (range_more n) (find-append p (range_with_len 0 n) (n ∷ []))

-- below 0 there is no number
pub first_below-zero : (p : ℕ → Bool) → first_below p 0 ≡ None
unfolding first_below
first_below-zero p = refl

-- no number up to n passes
pub first_below-none : (p : ℕ → Bool) (n : ℕ) → first_below p n ≡ None → p n ≡ false → first_below p (n + 1) ≡ None
first_below-none p n before here = rw (first_below-more p n, before, here) refl

-- the first number that passes is n
pub first_below-here : (p : ℕ → Bool) (n : ℕ) → first_below p n ≡ None → p n ≡ true → first_below p (n + 1) ≡ Some n
first_below-here p n before here = rw (first_below-more p n, before, here) refl

-- the first number that passes below n is also the first below n + 1
pub first_below-stays : (p : ℕ → Bool) (n i : ℕ) → first_below p n ≡ Some i → first_below p (n + 1) ≡ Some i
first_below-stays p n i found = rw (first_below-more p n, found) refl

first_below-later : (p : ℕ → Bool) (n i more : ℕ) → first_below p n ≡ Some i → first_below p (n + more) ≡ Some i
first_below-later p n i zero found = rw (add-zero n) found
first_below-later p n i (suc more) found =
    let e : n + suc more ≡ n + more + 1 = omega arith in
    rw e (first_below-stays p (n + more) i (first_below-later p n i more found))

-- the first number that passes, searched for below a greater one
pub first_below-first : (p : ℕ → Bool) (n i : ℕ) → i < n → first_below p i ≡ None → p i ≡ true → first_below p n ≡ Some i
first_below-first p n i inside before here =
    let e : i + 1 + (n - (i + 1)) ≡ n = omega arith in
    rw e at (first_below-later p (i + 1) i (n - (i + 1)) (first_below-here p i before here))

-- the first number that passes below m is also the first below a greater n
pub first_below-among : (p : ℕ → Bool) (m n i : ℕ) → m ≤ n → first_below p m ≡ Some i → first_below p n ≡ Some i
first_below-among p m n i within found =
    let e : m + (n - m) ≡ n = omega arith in rw e at (first_below-later p m i (n - m) found)

-- the number found passes and is below n
inside_step : (b : Bool) (f : Option ℕ) (n i : ℕ) → option_or f (cond b (Some n) None) ≡ Some i → (f ≡ Some i → i < n) → i < n + 1
inside_step b (Some x) n i found before = omega (arith, before found)
inside_step true None n i found before = let e : n ≡ i = cc in omega arith
inside_step false None n i found before = cc

pub first_below-inside : (p : ℕ → Bool) (n i : ℕ) → first_below p n ≡ Some i → i < n
first_below-inside p zero i found = let none = first_below-zero p in cc
first_below-inside p (suc n) i found =
    let e : n + 1 ≡ suc n = omega arith in
    let more : option_or (first_below p n) (cond (p n) (Some n) None) ≡ Some i = sym (first_below-more p n) ∙ ap (first_below p) e ∙ found in
    omega (arith, inside_step (p n) (first_below p n) n i more (first_below-inside p n i))

-- if none is found, none passes
none_step : (b : Bool) (f : Option ℕ) (n : ℕ) → option_or f (cond b (Some n) None) ≡ None → (f ≡ None) × (b ≡ false)
none_step b (Some x) n none = cc
none_step true None n none = cc
none_step false None n none = (refl, refl)

pub first_below-fails : (p : ℕ → Bool) (n k : ℕ) → first_below p n ≡ None → k < n → p k ≡ false
first_below-fails p zero k none less = absurd (omega (arith, less))
first_below-fails p (suc n) k none less =
    let e : n + 1 ≡ suc n = omega arith in
    let more : option_or (first_below p n) (cond (p n) (Some n) None) ≡ None = sym (first_below-more p n) ∙ ap (first_below p) e ∙ none in
    let parts : (first_below p n ≡ None) × (p n ≡ false) = none_step (p n) (first_below p n) n more in
    ⊎_elim
    (λ (below : k < n). first_below-fails p n k parts.0 below)
    (λ (above : n ≤ k). let same : k ≡ n = omega (arith, above, less) in rw same parts.1)
    (cases_lt k n)

-- the number found is the least that passes
found_step : (b : Bool) (f : Option ℕ) (n i : ℕ) → option_or f (cond b (Some n) None) ≡ Some i → (f ≡ Some i) ⊎ ((f ≡ None) × (b ≡ true) × (n ≡ i))
found_step b (Some x) n i found = inl found
found_step true None n i found = inr (refl, refl, cc)
found_step false None n i found = cc

pub first_below-least : (p : ℕ → Bool) (n i : ℕ) → first_below p n ≡ Some i → IsLeast p n i
first_below-least p zero i found = let none = first_below-zero p in cc
first_below-least p (suc n) i found =
    let e : n + 1 ≡ suc n = omega arith in
    let more : option_or (first_below p n) (cond (p n) (Some n) None) ≡ Some i = sym (first_below-more p n) ∙ ap (first_below p) e ∙ found in
    ⊎_elim
    (λ (before : first_below p n ≡ Some i).
    let least : IsLeast p n i = first_below-least p n i before in
    record { below = omega (arith, least.below); passes = least.passes; before = least.before })
    (λ (here : (first_below p n ≡ None) × (p n ≡ true) × (n ≡ i)).
    record {
      below = omega (arith, here.2);
      passes = rw (← here.2) here.1;
      before = λ k less. first_below-fails p n k here.0 (omega (arith, less, here.2));
    })
    (found_step (p n) (first_below p n) n i more)
