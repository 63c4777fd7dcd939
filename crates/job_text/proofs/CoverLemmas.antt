-- Which addresses regions cover: no byte of a job's image lies outside the regions.
use Rattle.std.proofs.Common.{◌≡◌, ℕ, ◌+◌, ◌-◌, ◌≤◌, ◌<◌, ◌⊎◌, ⊎_elim, inl, inr, Bool, true, false, ◌||◌, IsTrue, List, [], ◌∷◌, length, refl, arith}
use Rattle.std.specs.List.{list_any}
use Rattle.std.proofs.lemmas.Bool.{cases_lt, leb-true, ltb-true, le-leb, lt-ltb, and_parts, and_from}
use Rattle.std.proofs.lemmas.List.Sums.{sum_by-cons}
use Rattle.board_file.specs.declared.region.Region.{Region}
use Rattle.board_file.specs.Limits.{size_of}
use Rattle.job_text.specs.Fits.{holds, Covers}
use Rattle.job_text.specs.Reading.{reach, covers}

record Holds (r : Region) (at : ℕ) : Type 0 where
  from : r.base ≤ at
  to : at < r.base + r.size

held : (r : Region) (at : ℕ) → holds r at ≡ true → Holds r at
held r at is = let p = and_parts _ _ is in record { from = leb-true _ _ p.0; to = ltb-true _ _ p.1 }

holding : (r : Region) (at : ℕ) → r.base ≤ at → at < r.base + r.size → holds r at ≡ true
holding r at from to = and_from _ _ (le-leb _ _ from) (lt-ltb _ _ to)

or_right : (a b : Bool) → b ≡ true → (a || b) ≡ true
or_right true b is = refl
or_right false b is = is

or_left : (a b : Bool) → a ≡ true → (a || b) ≡ true
or_left true b is = refl
or_left false b is = absurd cc

pub reach_above : (rs : List Region) (at : ℕ) → at ≤ reach rs at
reach_above [] at = omega arith
reach_above (r ∷ rs) at = by_test (holds r at) refl (reach_above rs at)
  where
    by_test : (b : Bool) → holds r at ≡ b → at ≤ reach rs at → at ≤ reach (r ∷ rs) at
    by_test true is later = rw is (let h = held r at is in omega (arith, h.to))
    by_test false is later = rw is later

-- each address from `from` up to its reach lies in a region
reach_held : (rs : List Region) (from at : ℕ) → from ≤ at → at < reach rs from → list_any (λ r. holds r at) rs ≡ true
reach_held [] from at above below = absurd (omega (arith, above, below))
reach_held (r ∷ rs) from at above below = by_test (holds r from) refl (reach_held rs from at above)
  where
    by_test : (b : Bool) → holds r from ≡ b → (at < reach rs from → list_any (λ x. holds x at) rs ≡ true) → list_any (λ x. holds x at) (r ∷ rs) ≡ true
    by_test true is later =
        let h = held r from is in
        let less : at < r.base + r.size = rw is at below in
        or_left (holds r at) (list_any (λ x. holds x at) rs) (holding r at (omega (arith, h.from, above)) less)
    by_test false is later =
        let less : at < reach rs from = rw is at below in
        or_right (holds r at) (list_any (λ x. holds x at) rs) (later less)

pub covers_each : (rs : List Region) (from to : ℕ) → IsTrue (covers rs from to) → Covers rs from to
covers_each rs from to is = λ at above below.
    let le : to ≤ reach rs (reach rs from) = leb-true _ _ is in
    ⊎_elim
    (λ (first : at < reach rs from). reach_held rs from at above first)
    (λ (second : reach rs from ≤ at). reach_held rs (reach rs from) at second (omega (arith, below, le)))
    (cases_lt at (reach rs from))

-- the region holds the address `at`, and ends at `end`
record EndOf (r : Region) (at end : ℕ) : Type 0 where
  from : r.base ≤ at
  to : at < end
  is : end ≡ r.base + r.size

end_of_two : (r s : Region) (at : ℕ) → list_any (λ x. holds x at) (r ∷ s ∷ []) ≡ true → EndOf r at (reach (r ∷ s ∷ []) at) ⊎ EndOf s at (reach (r ∷ s ∷ []) at)
end_of_two r s at some = by_first (holds r at) refl
  where
    by_second : (b : Bool) → holds r at ≡ false → holds s at ≡ b → EndOf r at (reach (r ∷ s ∷ []) at) ⊎ EndOf s at (reach (r ∷ s ∷ []) at)
    by_second true no_first is = let h = held s at is in inr (rw (no_first, is) (record { from = h.from; to = h.to; is = refl }))
    by_second false no_first is = let none : false ≡ true = rw (no_first, is) at some in absurd cc

    by_first : (b : Bool) → holds r at ≡ b → EndOf r at (reach (r ∷ s ∷ []) at) ⊎ EndOf s at (reach (r ∷ s ∷ []) at)
    by_first true is = let h = held r at is in inl (rw is (record { from = h.from; to = h.to; is = refl }))
    by_first false is = by_second (holds s at) is refl

-- with two regions, three steps can't each reach a new end
no_third : (r s : Region) (a b c d : ℕ) → EndOf r a b ⊎ EndOf s a b → EndOf r b c ⊎ EndOf s b c → EndOf r c d ⊎ EndOf s c d → ⊥
no_third r s a b c d (inl x) (inl y) z = omega (arith, x.is, y.is, y.to)
no_third r s a b c d (inr x) (inr y) z = omega (arith, x.is, y.is, y.to)
no_third r s a b c d (inl x) (inr y) (inl z) = omega (arith, x.is, y.to, z.is, z.to)
no_third r s a b c d (inl x) (inr y) (inr z) = omega (arith, y.is, z.is, z.to)
no_third r s a b c d (inr x) (inl y) (inl z) = omega (arith, y.is, z.is, z.to)
no_third r s a b c d (inr x) (inl y) (inr z) = omega (arith, x.is, y.to, z.is, z.to)

covers_two : (r s : Region) (from to : ℕ) → from < to → Covers (r ∷ s ∷ []) from to → to ≤ reach (r ∷ s ∷ []) (reach (r ∷ s ∷ []) from)
covers_two r s from to some each =
    let rs : List Region = r ∷ s ∷ [] in
    let one = reach rs from in
    let two = reach rs one in
    let a1 : from ≤ one = reach_above rs from in
    let a2 : one ≤ two = reach_above rs one in
    ⊎_elim
    (λ (less : two < to).
    absurd (no_third r s from one two (reach rs two)
    (end_of_two r s from (each from (omega arith) some))
    (end_of_two r s one (each one a1 (omega (arith, a2, less))))
    (end_of_two r s two (each two (omega (arith, a1, a2)) less))))
    (λ (le : to ≤ two). le)
    (cases_lt two to)

covers_one : (r : Region) (from to : ℕ) → from < to → Covers (r ∷ []) from to → to ≤ reach (r ∷ []) (reach (r ∷ []) from)
covers_one r from to some each =
    let both : Covers (r ∷ r ∷ []) from to = λ at above below. or_left (holds r at) (list_any (λ x. holds x at) (r ∷ [])) (only at (each at above below)) in
    let le = covers_two r r from to some both in
    rw (twice from, twice (reach (r ∷ []) from)) at le
  where
    only : (at : ℕ) → list_any (λ x. holds x at) (r ∷ []) ≡ true → holds r at ≡ true
    only at is = by_test (holds r at) refl
      where
        by_test : (b : Bool) → holds r at ≡ b → holds r at ≡ true
        by_test true yes_ = yes_
        by_test false no_ = let none : false ≡ true = rw no_ at is in absurd cc

    twice : (at : ℕ) → reach (r ∷ r ∷ []) at ≡ reach (r ∷ []) at
    twice at = by_test (holds r at) refl
      where
        by_test : (b : Bool) → holds r at ≡ b → reach (r ∷ r ∷ []) at ≡ reach (r ∷ []) at
        by_test true is = rw is refl
        by_test false is = rw is refl

pub each_covered : (rs : List Region) (from to : ℕ) → length rs ≤ 2 → from < to → Covers rs from to → IsTrue (covers rs from to)
each_covered [] from to few some each = let none : false ≡ true = each from (omega arith) some in absurd cc
each_covered (r ∷ []) from to few some each = le-leb _ _ (covers_one r from to some each)
each_covered (r ∷ s ∷ []) from to few some each = le-leb _ _ (covers_two r s from to some each)
each_covered (r ∷ s ∷ t ∷ rs) from to few some each = absurd (omega (arith, few))

-- ---- how far regions reach

-- no region has more bytes than a board may have
abbrev pub AreSmall : List Region → Type 0
AreSmall [] = Unit {0}
AreSmall (r ∷ rs) = (r.size ≤ 16777216) × AreSmall rs

reach_small : (rs : List Region) (at : ℕ) → AreSmall rs → reach rs at ≤ at + 16777216
reach_small [] at small = omega arith
reach_small (r ∷ rs) at small = by_test (holds r at) refl (reach_small rs at small.1)
  where
    by_test : (b : Bool) → holds r at ≡ b → reach rs at ≤ at + 16777216 → reach (r ∷ rs) at ≤ at + 16777216
    by_test true is later = rw is (let h = held r at is in omega (arith, h.from, small.0))
    by_test false is later = rw is later

pub covers_small : (rs : List Region) (from to : ℕ) → AreSmall rs → IsTrue (covers rs from to) → to ≤ from + 33554432
covers_small rs from to small is =
    let le : to ≤ reach rs (reach rs from) = leb-true _ _ is in
    omega (arith, le, reach_small rs from small, reach_small rs (reach rs from) small)

-- ---- how many cells lie below an address

-- how many cells of a region lie below an address
abbrev pub under : Region → ℕ → ℕ
under r at = r.size - (r.base + r.size - at)

abbrev pub cells_under : List Region → ℕ → ℕ
cells_under [] at = 0
cells_under (r ∷ rs) at = under r at + cells_under rs at

pub under_grows : (rs : List Region) (from to : ℕ) → from ≤ to → cells_under rs from ≤ cells_under rs to
under_grows [] from to le = omega arith
under_grows (r ∷ rs) from to le = omega (arith, under_grows rs from to le, le)

pub under_most : (rs : List Region) (at : ℕ) → cells_under rs at ≤ size_of rs
under_most [] at = omega arith
under_most (r ∷ rs) at = omega (arith, under_most rs at, sum_by-cons (λ (q : Region). q.size) r rs)

under_reach : (rs : List Region) (from to : ℕ) → from ≤ to → to ≤ reach rs from → cells_under rs from + (to - from) ≤ cells_under rs to
under_reach [] from to le within = omega (arith, within)
under_reach (r ∷ rs) from to le within = by_test (holds r from) refl (under_reach rs from to le) (under_grows rs from to le)
  where
    by_test : (b : Bool) → holds r from ≡ b → (to ≤ reach rs from → cells_under rs from + (to - from) ≤ cells_under rs to) →
        cells_under rs from ≤ cells_under rs to
        → cells_under (r ∷ rs) from + (to - from) ≤ cells_under (r ∷ rs) to
    by_test true is later more =
        let h = held r from is in
        let ends : to ≤ r.base + r.size = rw is at within in
        omega (arith, h.from, h.to, ends, more, le)
    by_test false is later more =
        let ends : to ≤ reach rs from = rw is at within in
        let rest = later ends in
        omega (arith, rest, le)

-- the regions have a cell for each address that they cover
pub covers_under : (rs : List Region) (from to : ℕ) → from ≤ to → IsTrue (covers rs from to) → cells_under rs from + (to - from) ≤ cells_under rs to
covers_under rs from to le is =
    let within : to ≤ reach rs (reach rs from) = leb-true _ _ is in
    let above : from ≤ reach rs from = reach_above rs from in
    ⊎_elim
    (λ (first : to < reach rs from). under_reach rs from to le (omega (arith, first)))
    (λ (second : reach rs from ≤ to).
    let one = under_reach rs from (reach rs from) above (omega arith) in
    let two = under_reach rs (reach rs from) to second within in
    omega (arith, one, two, above, second))
    (cases_lt to (reach rs from))
