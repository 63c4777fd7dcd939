-- Laws of the least number that passes a test.
use Rattle.std.proofs.Common.{◌≡◌, ℕ, zero, suc, ◌+◌, ◌<◌, Bool, true, false, cond, Some, None, refl, sym, ap, ◌∙◌, arith}
use Rattle.std.specs.Option.{option_map, option_or}
use Rattle.std.specs.Prelude.{find}
use Rattle.std.specs.List.{range_with_len}
use Rattle.elf32.specs.Search.{first_below}
use Rattle.elf32.proofs.SearchLemmas.{first_below-zero, first_below-more}

-- tests that agree below a number have the same first number that passes
pub first_below-same : (p q : ℕ → Bool) (n : ℕ) → ((k : ℕ) → k < n → p k ≡ q k) → first_below p n ≡ first_below q n
first_below-same p q zero same = first_below-zero p ∙ sym (first_below-zero q)
first_below-same p q (suc n) same =
    let e : suc n ≡ n + 1 = omega arith in
    ap (first_below p) e ∙ first_below-more p n
    ∙ ap (λ b. option_or (first_below p n) (cond b (Some n) None)) (same n (omega arith))
    ∙ ap (λ o. option_or o (cond (q n) (Some n) None)) (first_below-same p q n (λ k less. same k (omega (arith, less))))
    ∙ sym (first_below-more q n) ∙ sym (ap (first_below q) e)

find_shifted : (p : ℕ → Bool) (a n : ℕ) → find p (range_with_len (suc a) n) ≡ option_map (λ k. suc k) (find (λ k. p (suc k)) (range_with_len a n))
find_shifted p a zero = refl
find_shifted p a (suc n) =
    let e : suc a + 1 ≡ suc (a + 1) = omega arith in
    let later : find p (range_with_len (suc a + 1) n) ≡ option_map (λ k. suc k) (find (λ k. p (suc k)) (range_with_len (a + 1) n)) =
    ap (λ (m : ℕ). find p (range_with_len m n)) e ∙ find_shifted p (a + 1) n in
    elim (p (suc a)) as (λ b. cond b (Some (suc a)) (find p (range_with_len (suc a + 1) n))
    ≡ option_map (λ k. suc k) (cond b (Some a) (find (λ k. p (suc k)) (range_with_len (a + 1) n)))) [ true ↦ refl | false ↦ later ]

-- the first number that passes is 0, or the first one from 1 on
pub first_below-shift : (p : ℕ → Bool) (n : ℕ) → first_below p (suc n) ≡ cond (p 0) (Some 0) (option_map (λ k. suc k) (first_below (λ k. p (suc k)) n))
unfolding first_below
first_below-shift p n = ap (λ o. cond (p 0) (Some 0) o) (find_shifted p 0 n)
