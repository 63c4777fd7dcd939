-- The regions of a job's board, its algorithms and its files.
use Rattle.std.proofs.Common.{◌≡◌, ◌⊎◌, ◌≤◌, ◌+◌, ℕ, true, eqb, List, [], ◌∷◌, length, slice_get, refl, arith, inl, inr}
use Rattle.std.proofs.lemmas.List.Sums.{sum_by-cons}
use Rattle.std.proofs.lemmas.Bool.{eqb-true, and_parts, and_from}
use Rattle.board_file.specs.declared.region.Region.{Region}
use Rattle.board_file.specs.Limits.{size_of}
use Rattle.board_file.specs.Shown as board
use Rattle.flm_descriptor.specs.Shown as flm
use Rattle.algo_loader.specs.Places.{has_room}
use Rattle.job_text.specs.Fits.{is_device_of, fits, all_fit}
use Rattle.job_text.specs.Jobs.{AreFlms}
use Rattle.job_text.specs.Reading.{fits_in}
use Rattle.job_text.proofs.CoverLemmas.{AreSmall}
use Rattle.job_text.proofs.FlmLemmas.{IsInMemory, device_in_memory}

-- there is one algorithm for each region, and one in each file
pub same_count : (b : board.Shown) (rs : List Region) (algorithms : List flm.Shown) → all_fit b rs algorithms ≡ true → length rs ≡ length algorithms
same_count b [] [] fit = refl
same_count b [] (a ∷ rest) fit = absurd cc
same_count b (r ∷ rs) [] fit = absurd cc
same_count b (r ∷ rs) (a ∷ rest) fit = let p = and_parts (fits b r a) (all_fit b rs rest) fit in omega (arith, same_count b rs rest p.1)

pub same_files : (files : List (List ℕ)) (algorithms : List flm.Shown) → AreFlms files algorithms → length files ≡ length algorithms
same_files [] [] are = refl
same_files [] (a ∷ rest) are = absurd are
same_files (f ∷ files) [] are = absurd are
same_files (f ∷ files) (a ∷ rest) are = omega (arith, same_files files rest are.1)

-- one algorithm fits one region, and two fit two
pub one_fits : (b : board.Shown) (rs : List Region) (a : flm.Shown) → length rs ≡ 1 → fits_in b (slice_get rs 0) a ≡ true → all_fit b rs (a ∷ []) ≡ true
one_fits b [] a one fit = absurd (omega (arith, one))
one_fits b (r ∷ []) a one fit = and_from _ _ fit refl
one_fits b (r ∷ s ∷ rs) a one fit = absurd (omega (arith, one))

pub two_fit : (b : board.Shown) (rs : List Region) (a c : flm.Shown) → length rs ≡ 2 → fits_in b (slice_get rs 0) a ≡ true → fits_in b (slice_get rs 1) c ≡ true
    → all_fit b rs (a ∷ c ∷ []) ≡ true
two_fit b [] a c two first second = absurd (omega (arith, two))
two_fit b (r ∷ []) a c two first second = absurd (omega (arith, two))
two_fit b (r ∷ s ∷ []) a c two first second = and_from _ _ first (and_from _ _ second refl)
two_fit b (r ∷ s ∷ t ∷ rs) a c two first second = absurd (omega (arith, two))

pub first_fits : (b : board.Shown) (rs : List Region) (a : flm.Shown) (rest : List flm.Shown) → all_fit b rs (a ∷ rest) ≡ true →
    fits_in b (slice_get rs 0) a ≡ true
first_fits b [] a rest fit = absurd cc
first_fits b (r ∷ rs) a rest fit = (and_parts (fits b r a) (all_fit b rs rest) fit).0

pub second_fits : (b : board.Shown) (rs : List Region) (a c : flm.Shown) (rest : List flm.Shown) → all_fit b rs (a ∷ c ∷ rest) ≡ true →
    fits_in b (slice_get rs 1) c ≡ true
second_fits b [] a c rest fit = absurd cc
second_fits b (r ∷ []) a c rest fit = let p = and_parts (fits b r a) (all_fit b [] (c ∷ rest)) fit in absurd cc
second_fits b (r ∷ s ∷ rs) a c rest fit =
    let p = and_parts (fits b r a) (all_fit b (s ∷ rs) (c ∷ rest)) fit in
    (and_parts (fits b s c) (all_fit b rs rest) p.1).0

-- regions with FLM files have no more bytes than a board may have
pub small_regions : (b : board.Shown) (rs : List Region) (algorithms : List flm.Shown) (files : List (List ℕ)) → all_fit b rs algorithms ≡ true →
    AreFlms files algorithms → AreSmall rs
small_regions b [] algorithms files fit are = tt
small_regions b (r ∷ rs) [] files fit are = absurd cc
small_regions b (r ∷ rs) (a ∷ rest) [] fit are = absurd are
small_regions b (r ∷ rs) (a ∷ rest) (f ∷ files) fit are =
    let p = and_parts (fits b r a) (all_fit b rs rest) fit in
    let q = and_parts (is_device_of r a.device) (has_room a b) p.0 in
    let size : r.size ≡ a.device.size = eqb-true _ _ (and_parts (eqb r.base a.device.base) (eqb r.size a.device.size) q.0).1 in
    let memory : IsInMemory a.device = device_in_memory f a are.0 in
    (omega (arith, size, memory.small), small_regions b rs rest files p.1 are.1)

size_of-cons : (r : Region) (rs : List Region) → size_of (r ∷ rs) ≡ r.size + size_of rs
size_of-cons r rs = sum_by-cons (λ (q : Region). q.size) r rs

pub few_cells : (rs : List Region) → length rs ≤ 2 → AreSmall rs → size_of rs ≤ 33554432
few_cells [] few small = omega arith
few_cells (r ∷ []) few small = omega (arith, size_of-cons r [], small.0)
few_cells (r ∷ s ∷ []) few small = omega (arith, size_of-cons r (s ∷ []), size_of-cons s [], small.0, small.1)
few_cells (r ∷ s ∷ t ∷ rs) few small = absurd (omega (arith, few))

pub at_most_two : (n : ℕ) → (n ≡ 1) ⊎ (n ≡ 2) → n ≤ 2
at_most_two n (inl one) = omega (arith, one)
at_most_two n (inr two) = omega (arith, two)
