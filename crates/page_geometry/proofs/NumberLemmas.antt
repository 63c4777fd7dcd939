-- From a run and numbers in the run to the number and the range of a sector or page.
use Rattle.std.proofs.Common.{◌≡◌, ℕ, ◌+◌, ◌-◌, ◌*◌, ◌/◌, ◌<◌, ◌≤◌, sym, subst, arith, ◌∙◌, List, length, slice_index}
use Rattle.std.proofs.Math.Nat.{div-add-mod'}
use Rattle.std.proofs.lemmas.Nat.{mod_below}
use Rattle.flm_descriptor.specs.declared.geometry.Run.{Run}
use Rattle.flm_descriptor.specs.Shape.{Range, pieces, piece, sectors_of, pages_of, range_at, run_at, sectors_before, pages_before}
use Rattle.flm_descriptor.proofs.CutLemmas.{pieces_below, pieces_above}
use Rattle.page_geometry.specs.Geometry.{In, Within, IsGeometry, ArePagesOf}
use Rattle.page_geometry.specs.Table.{AreFirstSectors, AreFirstPages, runs_geometry}
use Rattle.flm_descriptor.proofs.RunLemmas.{sector_here, page_here, run_page_in}

pub number_sector : (runs : List Run) (firsts : List ℕ) (t : AreFirstSectors runs firsts) (at k : ℕ) → at < length runs →
    k < pieces (run_at runs at).step (run_at runs at).start (run_at runs at).stop
    → (slice_index firsts at + k < length (sectors_of runs)) ×
    (range_at (sectors_of runs) (slice_index firsts at + k) ≡ piece (run_at runs at).step (run_at runs at).start (run_at runs at).stop k)
number_sector runs firsts t at k h l =
    let run = run_at runs at in
    let goal = λ (n : ℕ). (n + k < length (sectors_of runs)) × (range_at (sectors_of runs) (n + k) ≡ piece run.step run.start run.stop k) in
    subst (λ (n : ℕ). goal n) (sym (t.each at h)) (sector_here 1 runs at h k l)

pub number_page : (page : ℕ) (runs : List Run) (firsts : List ℕ) (t : AreFirstPages page runs firsts) (at j m each : ℕ) → at < length runs →
    each ≡ pieces page 0 (run_at runs at).step
    → j < pieces (run_at runs at).step (run_at runs at).start (run_at runs at).stop
    → m < pieces page (piece (run_at runs at).step (run_at runs at).start (run_at runs at).stop j).start
    (piece (run_at runs at).step (run_at runs at).start (run_at runs at).stop j).stop
    → (slice_index firsts at + (j * each + m) < length (pages_of page (sectors_of runs)))
    × (range_at (pages_of page (sectors_of runs)) (slice_index firsts at + (j * each + m)) ≡ piece page
    (piece (run_at runs at).step (run_at runs at).start (run_at runs at).stop j).start
    (piece (run_at runs at).step (run_at runs at).start (run_at runs at).stop j).stop m)
number_page page runs firsts t at j m each h e lj lm =
    let run = run_at runs at in
    let s = piece run.step run.start run.stop j in
    let goal = λ (n : ℕ). (n < length (pages_of page (sectors_of runs))) × (range_at (pages_of page (sectors_of runs)) n ≡ piece page s.start s.stop m) in
    let x = run_page_in page run.step run.start run.stop t.page_some (t.steps at h) j m lj lm in
    let y = page_here page runs at h (j * pieces page 0 run.step + m) x.0 in
    let same : pages_before page runs at + (j * pieces page 0 run.step + m) ≡ slice_index firsts at + (j * each + m) = cc (t.each at h, e) in
    subst (λ (n : ℕ). goal n) same (y.0, y.1 ∙ x.1)

-- the piece of a range that holds a place
pub place_piece : (page start stop place : ℕ) → 1 ≤ page → start ≤ place → place < stop → ((place - start) / page < pieces page start stop) ×
    In place (piece page start stop ((place - start) / page))
place_piece page start stop place some from under =
    let parts = div-add-mod' (place - start) page in
    let less = mod_below (place - start) page some in
    let low : start + (place - start) / page * page ≤ place = omega (arith, parts, from) in
    (pieces_above page start stop ((place - start) / page) some (omega (arith, low, under)), (low, omega (arith, parts, less, under, from)))

pub sector_pages_are : (size page : ℕ) (runs : List Run) (first_sectors first_pages : List ℕ) → AreFirstSectors runs first_sectors →
    (t : AreFirstPages page runs first_pages) → IsGeometry (runs_geometry size page runs)
    → (at j sector each count : ℕ) → at < length runs → j < pieces (run_at runs at).step (run_at runs at).start (run_at runs at).stop →
    sectors_before runs at + j ≡ sector → each ≡ pieces page 0 (run_at runs at).step
    → count ≡ pieces page (piece (run_at runs at).step (run_at runs at).start (run_at runs at).stop j).start
    (piece (run_at runs at).step (run_at runs at).start (run_at runs at).stop j).stop
    → ArePagesOf (runs_geometry size page runs) sector (slice_index first_pages at + j * each) count
sector_pages_are size page runs first_sectors first_pages ts t good at j sector each count h lj number e counted =
    let run = run_at runs at in
    let s = piece run.step run.start run.stop j in
    let first : ℕ = slice_index first_pages at + j * each in
    let x = sector_here page runs at h j lj in
    let here : range_at (sectors_of runs) sector ≡ s = subst (λ (n : ℕ). range_at (sectors_of runs) n ≡ s) number x.1 in
    let below = pieces_below run.step run.start run.stop j (t.steps at h) lj in
    let full : s.start < s.stop = omega (arith, below, t.steps at h) in
    let page_of : (m : ℕ) → m < count → (first + m < length (pages_of page (sectors_of runs))) ×
    (range_at (pages_of page (sectors_of runs)) (first + m) ≡ piece page s.start s.stop m) =
    λ m l. let y = number_page page runs first_pages t at j m each h e lj (omega (arith, l, counted)) in
    let goal = λ (n : ℕ). (n < length (pages_of page (sectors_of runs))) × (range_at (pages_of page (sectors_of runs)) n ≡ piece page s.start s.stop m) in
    let same : slice_index first_pages at + (j * each + m) ≡ first + m = omega arith in
    subst (λ (n : ℕ). goal n) same y in
    let some : 0 < count = omega (arith, counted, pieces_above page s.start s.stop 0 t.page_some (omega (arith, full))) in
    record {
      in_all = (let last = page_of (count - 1) (omega (arith, some)) in omega (arith, last.0, some));
      within = λ p low high.
          let m : ℕ = p - first in
          let y = page_of m (omega (arith, low, high)) in
          let same : first + m ≡ p = omega (arith, low) in
          let there : range_at (pages_of page (sectors_of runs)) p ≡ piece page s.start s.stop m =
          subst (λ (n : ℕ). range_at (pages_of page (sectors_of runs)) n ≡ piece page s.start s.stop m) same y.1 in
          subst (λ (r : Range). Within r (range_at (sectors_of runs) sector)) (sym there)
          (subst (λ (r : Range). Within (piece page s.start s.stop m) r) (sym here) (omega arith, omega arith));
      all = λ p l w.
          let i : ℕ = (range_at (pages_of page (sectors_of runs)) p).start in
          let nonempty = good.pages_part.some p l in
          let w' : Within (range_at (pages_of page (sectors_of runs)) p) s =
          subst (λ (r : Range). Within (range_at (pages_of page (sectors_of runs)) p) r) here w in
          let z = place_piece page s.start s.stop i t.page_some w'.0 (omega (arith, w'.1, nonempty)) in
          let m : ℕ = (i - s.start) / page in
          let y = page_of m (omega (arith, z.0, counted)) in
          let inside : In i (range_at (pages_of page (sectors_of runs)) (first + m)) = subst (λ (r : Range). In i r) (sym y.1) z.1 in
          let same : p ≡ first + m = good.pages_part.apart p (first + m) i (omega arith, nonempty) inside in
          (omega (arith, same), omega (arith, same, z.0, counted));
    }

pub number_place : (page : ℕ) (runs : List Run) (firsts : List ℕ) (t : AreFirstPages page runs firsts) (at j each place from : ℕ) → at < length runs →
    each ≡ pieces page 0 (run_at runs at).step
    → j < pieces (run_at runs at).step (run_at runs at).start (run_at runs at).stop →
    In place (piece (run_at runs at).step (run_at runs at).start (run_at runs at).stop j)
    → from ≡ (piece (run_at runs at).step (run_at runs at).start (run_at runs at).stop j).start
    → (slice_index firsts at + (j * each + (place - from) / page) < length (pages_of page (sectors_of runs))) ×
    In place (range_at (pages_of page (sectors_of runs)) (slice_index firsts at + (j * each + (place - from) / page)))
number_place page runs firsts t at j each place from h e lj inside begins =
    let s = piece (run_at runs at).step (run_at runs at).start (run_at runs at).stop j in
    let z = place_piece page s.start s.stop place t.page_some inside.0 inside.1 in
    let x = number_page page runs firsts t at j ((place - s.start) / page) each h e lj z.0 in
    let goal = λ (f : ℕ). (slice_index firsts at + (j * each + (place - f) / page) < length (pages_of page (sectors_of runs))) ×
    In place (range_at (pages_of page (sectors_of runs)) (slice_index firsts at + (j * each + (place - f) / page))) in
    subst (λ (f : ℕ). goal f) (sym begins) (x.0, subst (λ (r : Range). In place r) (sym x.1) z.1)

pub number_range : (page : ℕ) (runs : List Run) (firsts : List ℕ) (t : AreFirstPages page runs firsts) (at j m from to index : ℕ) → at < length runs
    → j < pieces (run_at runs at).step (run_at runs at).start (run_at runs at).stop
    → m < pieces page (piece (run_at runs at).step (run_at runs at).start (run_at runs at).stop j).start
    (piece (run_at runs at).step (run_at runs at).start (run_at runs at).stop j).stop
    → from ≡ (piece (run_at runs at).step (run_at runs at).start (run_at runs at).stop j).start →
    to ≡ (piece (run_at runs at).step (run_at runs at).start (run_at runs at).stop j).stop
    → pages_before page runs at + (j * pieces page 0 (run_at runs at).step + m) ≡ index
    → (m < pieces page from to) × (range_at (pages_of page (sectors_of runs)) index ≡ piece page from to m)
number_range page runs firsts t at j m from to index h lj lm e1 e2 number =
    let run = run_at runs at in
    let s = piece run.step run.start run.stop j in
    let x = run_page_in page run.step run.start run.stop t.page_some (t.steps at h) j m lj lm in
    let y = page_here page runs at h (j * pieces page 0 run.step + m) x.0 in
    let goal = λ (f : ℕ) (u : ℕ) (n : ℕ). (m < pieces page f u) × (range_at (pages_of page (sectors_of runs)) n ≡ piece page f u m) in
    subst (λ (n : ℕ). goal from to n) number
    (subst (λ (f : ℕ). goal f to (pages_before page runs at + (j * pieces page 0 run.step + m))) (sym e1)
    (subst (λ (u : ℕ). goal s.start u (pages_before page runs at + (j * pieces page 0 run.step + m))) (sym e2) (lm, y.1 ∙ x.1)))
