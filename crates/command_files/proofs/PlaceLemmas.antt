-- The address of a place among the cells of regions.
use Rattle.std.proofs.Common.{◌≡◌, ◌≤◌, ◌<◌, ◌+◌, ◌-◌, ⊎_elim, refl, sym, subst, arith, ℕ, Bool, true, false, nat_lt, if◌then◌else◌, List, [], ◌∷◌, Option}
use Rattle.std.proofs.Common.{Some, IsSome}
use Rattle.std.proofs.lemmas.Bool.{cases_lt}
use Rattle.std.proofs.lemmas.Bool.Decides.{nat_tests}
use Rattle.std.proofs.lemmas.List.Sums.{sum_by-cons}
use Rattle.board_file.specs.declared.region.Region.{Region}
use Rattle.board_file.specs.Limits.{size_of}
use Rattle.job_text.specs.Laid.{address_at}

when_true : {A : Type 0} (b : Bool) (x y : A) → b ≡ true → (if b then x else y) ≡ x
when_true true x y is = refl
when_true false x y is = absurd (cc)

when_false : {A : Type 0} (b : Bool) (x y : A) → b ≡ false → (if b then x else y) ≡ y
when_false true x y isn't = absurd (cc)
when_false false x y isn't = refl

pub chosen_first : {A : Type 0} (m n : ℕ) (x y : A) → m < n → (if nat_lt m n then x else y) ≡ x
chosen_first m n x y less = when_true (nat_lt m n) x y (grind (arith, nat_tests))

pub chosen_later : {A : Type 0} (m n : ℕ) (x y : A) → n ≤ m → (if nat_lt m n then x else y) ≡ y
chosen_later m n x y most = when_false (nat_lt m n) x y (grind (arith, nat_tests))

pub address_first : (r : Region) (rs : List Region) (place : ℕ) → place < r.size → address_at (r ∷ rs) place ≡ Some (r.base + place)
address_first r rs place less = chosen_first place r.size (Some (r.base + place)) (address_at rs (place - r.size)) less

pub address_later : (r : Region) (rs : List Region) (place : ℕ) → r.size ≤ place → address_at (r ∷ rs) place ≡ address_at rs (place - r.size)
address_later r rs place most = chosen_later place r.size (Some (r.base + place)) (address_at rs (place - r.size)) most

-- each place has an address
pub has_address : (rs : List Region) (place : ℕ) → place < size_of rs → IsSome (address_at rs place)
has_address [] place less = let none : size_of [] ≡ 0 = refl in absurd (omega (arith, none, less))
has_address (r ∷ rs) place less = ⊎_elim
    (λ (inside : place < r.size). subst (λ (o : Option ℕ). IsSome o) (sym (address_first r rs place inside)) refl)
    (λ (behind : r.size ≤ place).
    let sizes : size_of (r ∷ rs) ≡ r.size + size_of rs = sum_by-cons (λ (region : Region). region.size) r rs in
    subst (λ (o : Option ℕ). IsSome o) (sym (address_later r rs place behind)) (has_address rs (place - r.size) (omega (arith, sizes, less, behind))))
    (cases_lt place r.size)
