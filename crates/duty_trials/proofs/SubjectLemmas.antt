-- The subject of trials: the cells of a board's regions, the first cell of each, and the sectors and pages of an algorithm's device.
use Rattle.std.proofs.Common.{◌≡◌, ◌<◌, ◌≤◌, ◌+◌, ◌-◌, ◌^◌, ℕ, zero, suc, Bool, if◌then◌else◌, List, [], ◌∷◌, length, length-take, take, drop, get_or, Ok, Err}
use Rattle.std.proofs.Common.{le-leb, refl, ◌∙◌, ap, subst, add-one, arith}
use Rattle.std.proofs.lemmas.Option.{slice_get_within, get_or_from_slice_get}
use Rattle.board_file.specs.declared.board.Board.{Board}
use Rattle.board_file.specs.Shown.{Shown as BoardShown}
use Rattle.board_file.specs.declared.region.Region.{Region}
use Rattle.board_file.specs.Limits.{size_of}
use Rattle.flm_descriptor.specs.Shown.{Shown as AlgorithmShown}
use Rattle.algo_loader.specs.Places.{need_of, layout_of, placed}
use Rattle.flm_descriptor.specs.Shape.{Range, range, range_at, shape}
use Rattle.page_geometry.specs.Geometry.{IsPartition, IsGeometry, IsAt, PagesFit}
use Rattle.page_geometry.proofs.GeometryLemmas.{geometry_lawful, geometry_fits}
use Rattle.duty_trials.specs.declared.subject.Subject.{Subject}
use Rattle.duty_trials.specs.declared.subject.Span.{Span}
use Rattle.duty_trials.specs.Fits.{IsFit}
use Rattle.duty_trials.specs.Subjects.{site_in, IsSpan}
use Rattle.flash_layout.specs.Areas.{areas_of, cells_in}
use Rattle.flash_layout.proofs.BoardLemmas.{cells_sum}
use Rattle.algo_calls.specs.Duties.{cells_before}

more : (regions : List Region) (k : ℕ) (other : Region) → k < length regions
    → cells_before (areas_of regions) (suc k) ≡ cells_before (areas_of regions) k + (get_or regions k other).size
more [] k other less = absurd (omega (arith, less))
more (r ∷ rest) zero other less = omega arith
more (r ∷ rest) (suc k) other less =
    let later : cells_before (areas_of rest) (suc k) ≡ cells_before (areas_of rest) k + (get_or rest k other).size = more rest k other (omega (arith, less)) in
    omega (arith, later)

-- the cells of the regions before one, and of that region
pub before_more : (regions : List Region) (k : ℕ) (other : Region) → k < length regions
    → cells_before (areas_of regions) (k + 1) ≡ cells_before (areas_of regions) k + (get_or regions k other).size
before_more regions k other less = ap (λ (n : ℕ). cells_before (areas_of regions) n) (add-one k) ∙ more regions k other less

-- the cells of the regions before one are no more than all cells
pub before_few : (regions : List Region) (k : ℕ) → cells_before (areas_of regions) k ≤ cells_in (areas_of regions)
before_few [] zero = omega arith
before_few [] (suc k) = omega arith
before_few (r ∷ rest) zero = omega arith
before_few (r ∷ rest) (suc k) = omega (arith, before_few rest k)

-- the cells up to a region's end are no more than all cells
pub region_within : (regions : List Region) (k : ℕ) (other : Region) → k < length regions
    → cells_before (areas_of regions) k + (get_or regions k other).size ≤ cells_in (areas_of regions)
region_within regions k other less = omega (arith, before_more regions k other less, before_few regions (k + 1))

-- a board has fewer than 2^32 cells
pub board_few : (b : Board) (regions : List Region) → regions ≡ b.regions → cells_in (areas_of regions) < 2 ^ 32
board_few b regions is = omega (arith, cells_sum regions, ap (λ (rs : List Region). size_of rs) is, b.few_cells)

-- the cells of all regions are all cells
pub before_all : (regions : List Region) → cells_before (areas_of regions) (length regions) ≡ cells_in (areas_of regions)
before_all [] = refl
before_all (r ∷ rest) = ap (λ (n : ℕ). r.size + n) (before_all rest)

-- the RAM has room for an algorithm that is one for a region
pub is_placed : (b : BoardShown) (a : AlgorithmShown) (region : ℕ) → IsFit b a region → placed a b ≡ Ok (layout_of a b)
is_placed b a region fit =
    ap (λ (t : Bool). if t then Ok (layout_of a b) else Err (record { need = need_of a b; have = b.ram_size })) (le-leb (need_of a b) b.ram_size fit.room)

-- the device of an algorithm for a region is within the board's cells
pub fit_within : (b : BoardShown) (a : AlgorithmShown) (region : ℕ) → IsFit b a region
    → (region < length b.regions) × (cells_before (areas_of b.regions) region + a.device.size ≤ cells_in (areas_of b.regions))
fit_within b a region fit =
    let less : region < length b.regions = slice_get_within b.regions region fit.its fit.is in (
      less,
      omega (
        arith,
        region_within b.regions region fit.its less,
        fit.size,
        ap (λ (r : Region). r.size) (get_or_from_slice_get b.regions region fit.its fit.its fit.is),
      ),
    )

-- ---- the subject of trials

pub layout_good : (t : Subject) → IsGeometry (site_in t).layout
layout_good t = geometry_lawful (shape t.algorithm.now.device.size t.algorithm.now.device.page t.algorithm.now.items) t.algorithm.now.lawful

pub among : (t : Subject) (x : List ℕ) → length x ≡ t.cells → (site_in t).start + (site_in t).layout.size ≤ length x
among t x long = omega (arith, long, t.within, t.begins)

-- a page fits the buffer
pub page_short : (t : Subject) (k : ℕ) (span : Span) → k < length (site_in t).layout.pages → IsSpan t (range_at (site_in t).layout.pages k) span
    → span.to ≤ span.from + t.algorithm.now.device.page
page_short t k span less is =
    let fits : PagesFit t.algorithm.now.device.page (site_in t).layout =
    geometry_fits (shape t.algorithm.now.device.size t.algorithm.now.device.page t.algorithm.now.items) in
    omega (arith, fits k less, is.from, is.to)

-- the bytes of a page, taken from all cells, fit the page buffer
pub taken_short : (t : Subject) (k : ℕ) (span : Span) (cells : List ℕ) → k < length (site_in t).layout.pages
    → IsSpan t (range_at (site_in t).layout.pages k) span
    → length (take (span.to - span.from) (drop span.from cells)) ≤ t.algorithm.now.device.page
taken_short t k span cells less is = omega (arith, page_short t k span less is, length-take (span.to - span.from) (drop span.from cells))

-- a place and a length give a range
range_as : (r : Range) (at len : ℕ) → IsAt r at len → range at (at + len) ≡ r
range_as r at len is = ap (λ (n : ℕ). range n (at + len)) is.0 ∙ ap (λ (n : ℕ). range r.start n) is.1

-- the range of a sector or a page has at least one cell, and is within the device
pub some_in : (size : ℕ) (rs : List Range) (k at len : ℕ) → IsPartition size rs → k < length rs → IsAt (range_at rs k) at len → (0 < len) × (at + len ≤ size)
some_in size rs k at len part less is = (omega (arith, part.some k less, is.0, is.1), omega (arith, part.below k less, is.1))

pub span_as : (t : Subject) (r : Range) (at len : ℕ) (span : Span) → IsAt r at len → IsSpan t (range at (at + len)) span → IsSpan t r span
span_as t r at len span is places = subst (λ (s : Range). IsSpan t s span) (range_as r at len is) places
