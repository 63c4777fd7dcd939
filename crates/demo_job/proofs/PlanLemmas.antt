-- The chosen plan is that of the one region, which has all cells.
use Rattle.std.proofs.Common.{◌≡◌, ◌++◌, ◌∙◌, ◌==◌, sym, ap, refl, arith, append-nil, ℕ, Bool, true, List, [], ◌∷◌, length, drop}
use Rattle.std.proofs.lemmas.Bool.{and_parts, eqb-true}
use Rattle.std.proofs.lemmas.List.{take_all, drop_all}
use Rattle.std.proofs.lemmas.List.Sums.{sum_by-cons}
use Rattle.board_file.specs.declared.board.Weights.{Weights}
use Rattle.board_file.specs.declared.region.Region.{Region}
use Rattle.board_file.specs.Limits.{size_of}
use Rattle.board_file.specs.Shown as board
use Rattle.flm_descriptor.specs.Shown as flm
use Rattle.algo_loader.specs.Places.{has_room}
use Rattle.algo_calls.specs.Duties.{part, site_of}
use Rattle.byte_map.specs.Image.{Run, over}
use Rattle.byte_map.proofs.Overlays.{length-over}
use Rattle.page_geometry.specs.Geometry.{Geometry}
use Rattle.erase_planner.specs.Plans.{chosen}
use Rattle.job_text.specs.Fits.{is_device_of, fits, all_fit}
use Rattle.job_text.specs.Laid.{overlaid}
use Rattle.demo_job.specs.Made.{base, cells_of, image_of, laid_of}
use Rattle.demo_job.specs.Fixture.{Fixture}
use Rattle.demo_job.specs.Run.{work_of}
use Rattle.demo_job.proofs.MadeLemmas.{length-cells}

pub chosen_as : {l m : Geometry} (w : Weights) {b c : Bool} (empty : ℕ) {old cells want goal : List ℕ} → l ≡ m → b ≡ c → old ≡ cells → want ≡ goal
    → chosen l w b empty old want ≡ chosen m w c empty cells goal
chosen_as {l} {m} w {b} {c} empty {old} {cells} {want} {goal} layouts chips olds wants =
    ap (λ (x : Geometry). chosen x w b empty old want) layouts
    ∙ ap (λ (x : Bool). chosen m w x empty old want) chips
    ∙ ap (λ (x : List ℕ). chosen m w c empty x want) olds
    ∙ ap (λ (x : List ℕ). chosen m w c empty cells x) wants

pub length-laid : (seed : ℕ) → length (laid_of seed) ≡ 65536
length-laid seed = length-over (image_of seed) base (cells_of seed) ∙ length-cells seed

-- the one region that an algorithm is for
record HasOnly (regions : List Region) (a : flm.Shown) : Type 0 where
  region : Region
  only : regions ≡ region ∷ []
  base_is : region.base ≡ a.device.base
  size_is : region.size ≡ a.device.size

only_of : (b : board.Shown) (regions : List Region) (a : flm.Shown) → all_fit b regions (a ∷ []) ≡ true → HasOnly regions a
only_of b [] a fit = absurd (cc)
only_of b (r ∷ []) a fit =
    let both = and_parts (fits b r a) (all_fit b [] []) fit in
    let device = and_parts (is_device_of r a.device) (has_room a b) both.0 in
    let same = and_parts (r.base == a.device.base) (r.size == a.device.size) device.0 in
    record { region = r; only = refl; base_is = eqb-true r.base a.device.base same.0; size_is = eqb-true r.size a.device.size same.1 }
only_of b (r ∷ q ∷ more) a fit =
    let both = and_parts (fits b r a) (all_fit b (q ∷ more) []) fit in
    absurd (let wrong = both.1 in cc)

-- the board has as many cells as the algorithm's device
pub board_size : (b : board.Shown) (a : flm.Shown) → all_fit b b.regions (a ∷ []) ≡ true → size_of b.regions ≡ a.device.size
board_size b a fit =
    let only = only_of b b.regions a fit in
    ap size_of only.only ∙ omega (arith, sum_by-cons (λ (r : Region). r.size) only.region []) ∙ only.size_is

one_overlaid : (image : List Run) (region : Region) (cells : List ℕ) → length cells ≡ region.size
    → overlaid image (region ∷ []) cells ≡ over image region.base cells
one_overlaid image region cells long =
    ap (λ (l : List ℕ). over image region.base l ++ drop region.size cells) (take_all region.size cells (omega (arith, long)))
    ∙ ap (λ (l : List ℕ). over image region.base cells ++ l) (drop_all region.size cells (omega (arith, long)))
    ∙ append-nil (over image region.base cells)

-- the image laid over the cells of the board is the image laid over the cells
pub laid_over : (seed : ℕ) (t : Fixture) → all_fit t.board t.board.regions (t.algorithm ∷ []) ≡ true → t.algorithm.device.base ≡ 0x08000000
    → t.algorithm.device.size ≡ 65536 → (work_of seed t).goal ≡ laid_of seed
laid_over seed t fit base_is size_is =
    let only = only_of t.board t.board.regions t.algorithm fit in
    ap (λ (rs : List Region). overlaid (image_of seed) rs (cells_of seed)) only.only
    ∙ one_overlaid (image_of seed) only.region (cells_of seed) (length-cells seed ∙ sym (only.size_is ∙ size_is))
    ∙ ap (λ (n : ℕ). over (image_of seed) n (cells_of seed)) (only.base_is ∙ base_is)

-- the part of all cells that belongs to the first region is all of them
pub all_part : (b : board.Shown) (a : flm.Shown) (cells : List ℕ) → a.device.size ≡ 65536 → length cells ≡ 65536 → part (site_of b a 0) cells ≡ cells
all_part b a cells size long = take_all a.device.size cells (omega (arith, size, long))
