-- The algorithms of a board's regions, one after the other, and the runs of an image.
use Rattle.std.proofs.Common.{◌≡◌, ◌↔◌, ◌+◌, ◌<◌, ◌≤◌, ℕ, zero, suc, Bool, true, false, ◌&&◌, IsTrue, List, [], ◌∷◌, length, drop, Some, refl, sym, ap, ◌∙◌}
use Rattle.std.proofs.Common.{arith}
use Rattle.std.specs.Prelude.{slice_get}
use Rattle.std.proofs.lemmas.List.{drop_all}
use Rattle.std.proofs.lemmas.Bool.{and_parts, and_from}
use Rattle.board_file.specs.declared.region.Region.{Region}
use Rattle.board_file.specs.Shown as board
use Rattle.flm_descriptor.specs.declared.algorithm.Algorithm.{Algorithm}
use Rattle.flm_descriptor.specs.Shown as flm
use Rattle.byte_map.specs.Image.{Run, addresses, end_of, AreMaximal}
use Rattle.job_text.specs.Fits.{fits, all_fit, AreCovered, LiesIn}
use Rattle.job_text.specs.Reading.{covers, all_covered}
use Rattle.job_text.proofs.CoverLemmas.{covers_each, each_covered}
use Rattle.job_text.specs.Said.{algorithms_shown}
use Rattle.job_text.proofs.RegionLemmas.{same_count}

-- ---- algorithms

shown_length : (algorithms : List Algorithm) → length (algorithms_shown algorithms) ≡ length algorithms
shown_length [] = refl
shown_length (a ∷ rest) = ap suc (shown_length rest)

-- another number of algorithms than regions doesn't fit
pub other_count : (b : board.Shown) (rs : List Region) (algorithms : List Algorithm) → (length rs ≡ length algorithms → ⊥) →
    false ≡ all_fit b rs (algorithms_shown algorithms)
other_count b rs algorithms other = by_test (all_fit b rs (algorithms_shown algorithms)) refl
  where
    by_test : (t : Bool) → all_fit b rs (algorithms_shown algorithms) ≡ t → false ≡ all_fit b rs (algorithms_shown algorithms)
    by_test true fit = absurd (other (same_count b rs (algorithms_shown algorithms) fit ∙ shown_length algorithms))
    by_test false fit = sym fit

-- one more region and its algorithm
pub fit_next : (b : board.Shown) (rs : List Region) (algorithms : List Algorithm) (k : ℕ) (r : Region) (a : Algorithm) → length rs ≡ length algorithms →
    k < length rs → slice_get rs k ≡ Some r → slice_get algorithms k ≡ Some a
    → all_fit b (drop k rs) (algorithms_shown (drop k algorithms)) ≡
    (fits b r (flm.shown a) && all_fit b (drop (k + 1) rs) (algorithms_shown (drop (k + 1) algorithms)))
fit_next b [] algorithms k r a same less one two = absurd (omega (arith, less))
fit_next b (x ∷ rs) [] k r a same less one two = absurd (omega (arith, same))
fit_next b (x ∷ rs) (y ∷ rest) zero r a same less one two =
    let r_is : x ≡ r = cc in
    let a_is : y ≡ a = cc in
    ap (λ (q : Region). fits b q (flm.shown y) && all_fit b rs (algorithms_shown rest)) r_is ∙
    ap (λ (c : Algorithm). fits b r (flm.shown c) && all_fit b rs (algorithms_shown rest)) a_is
fit_next b (x ∷ rs) (y ∷ rest) (suc k) r a same less one two =
    let more : suc k + 1 ≡ suc (k + 1) = omega arith in
    fit_next b rs rest k r a (omega (arith, same)) (omega (arith, less)) one two
    ∙ ap (λ (n : ℕ). fits b r (flm.shown a) && all_fit b (drop n (x ∷ rs)) (algorithms_shown (drop n (y ∷ rest)))) (sym more)

pub fit_done : (b : board.Shown) (rs : List Region) (algorithms : List Algorithm) (k : ℕ) → length rs ≡ length algorithms → length rs ≤ k →
    all_fit b (drop k rs) (algorithms_shown (drop k algorithms)) ≡ true
fit_done b rs algorithms k same all = rw (drop_all k rs all, drop_all k algorithms (omega (arith, same, all))) refl

-- ---- runs

-- one more run
pub covered_next : (regions : List Region) (rs : List Run) (k : ℕ) (r : Run) → k < length rs → slice_get rs k ≡ Some r
    → all_covered regions (drop k rs) ≡ (covers regions r.at (end_of r) && all_covered regions (drop (k + 1) rs))
covered_next regions [] k r less is = absurd (omega (arith, less))
covered_next regions (x ∷ rs) zero r less is = let same : x ≡ r = cc in ap (λ (q : Run). covers regions q.at (end_of q) && all_covered regions rs) same
covered_next regions (x ∷ rs) (suc k) r less is =
    let more : suc k + 1 ≡ suc (k + 1) = omega arith in
    covered_next regions rs k r (omega (arith, less)) is ∙ ap (λ (n : ℕ). covers regions r.at (end_of r) && all_covered regions (drop n (x ∷ rs))) (sym more)

-- one more run lies in the regions, or doesn't
pub covered_on : (regions : List Region) (rs : List Run) (k : ℕ) (r : Run) → k < length rs → slice_get rs k ≡ Some r → covers regions r.at (end_of r) ≡ true →
    all_covered regions (drop k rs) ≡ all_covered regions rs
    → all_covered regions (drop (k + 1) rs) ≡ all_covered regions rs
covered_on regions rs k r less is yes_ so_far =
    sym (covered_next regions rs k r less is ∙ ap (λ (b : Bool). b && all_covered regions (drop (k + 1) rs)) yes_) ∙ so_far

pub covered_not : (regions : List Region) (rs : List Run) (k : ℕ) (r : Run) → k < length rs → slice_get rs k ≡ Some r → covers regions r.at (end_of r) ≡ false →
    all_covered regions (drop k rs) ≡ all_covered regions rs
    → false ≡ all_covered regions rs
covered_not regions rs k r less is no_ so_far =
    sym (covered_next regions rs k r less is ∙ ap (λ (b : Bool). b && all_covered regions (drop (k + 1) rs)) no_) ∙ so_far

covered_runs : (regions : List Region) (rs : List Run) → all_covered regions rs ≡ true → AreCovered regions rs
covered_runs regions [] all = tt
covered_runs regions (r ∷ rs) all =
    let p = and_parts (covers regions r.at (end_of r)) (all_covered regions rs) all in
    (covers_each regions r.at (end_of r) p.0, covered_runs regions rs p.1)

runs_covered : (regions : List Region) (low : ℕ) (rs : List Run) → length regions ≤ 2 → AreMaximal low addresses rs → AreCovered regions rs →
    all_covered regions rs ≡ true
runs_covered regions low [] few m covered = refl
runs_covered regions low (r ∷ rs) few m covered =
    and_from _ _ (each_covered regions r.at (end_of r) few (omega (arith, m.1)) covered.0) (runs_covered regions (end_of r + 1) rs few m.3 covered.1)

pub lies_exactly : (regions : List Region) (image : List Run) → length regions ≤ 2 → AreMaximal 0 addresses image →
    IsTrue (all_covered regions image) ↔ LiesIn regions image
lies_exactly regions image few m = ((λ all. (m, covered_runs regions image all)), (λ lies. runs_covered regions 0 image few lies.0 lies.1))
