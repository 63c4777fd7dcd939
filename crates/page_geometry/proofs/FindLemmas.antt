-- From a number or a place to its run, sector and page, as `find_sector`, `find_page` and `find_place` search the tables.
use Rattle.std.proofs.Common.{◌≡◌, ℕ, ◌+◌, ◌-◌, ◌*◌, ◌/◌, ◌%◌, ◌<◌, ◌≤◌, sym, ap, subst, arith, ◌∙◌, List, length, slice_index, inl, inr}
use Rattle.std.proofs.Math.Nat.{div-add-mod'}
use Rattle.std.proofs.lemmas.Nat.{mod_below}
use Rattle.std.proofs.lemmas.Bool.{cases_lt}
use Rattle.flm_descriptor.specs.declared.geometry.Run.{Run}
use Rattle.flm_descriptor.specs.Shape.{pieces, piece, cut, sectors_of, pages_of, run_at, sectors_before, pages_before}
use Rattle.flm_descriptor.proofs.CutLemmas.{pieces_above}
use Rattle.page_geometry.specs.Geometry.{In}
use Rattle.page_geometry.specs.Table.{AreRuns, AreFirstSectors, AreFirstPages}
use Rattle.flm_descriptor.proofs.RunLemmas.{sectors_next, pages_next, sectors_all, pages_all, sectors_none, pages_none, sectors_rise, pages_rise, run_find_page}
use Rattle.flm_descriptor.proofs.RunLemmas.{pieces_some}

-- ---- what `last_at_most` requires of the tables

module _ (runs : List Run) (firsts : List ℕ) (t : AreFirstSectors runs firsts) where
  pub sectors_rising : (i j : ℕ) → i ≤ j → j < length firsts → slice_index firsts i ≤ slice_index firsts j
  sectors_rising i j h l =
      let e1 = t.each i (omega (arith, h, l, t.long)) in let e2 = t.each j (omega (arith, l, t.long)) in omega (arith, e1, e2, sectors_rise runs i j h)

  pub sectors_first : (index : ℕ) → slice_index firsts 0 ≤ index
  sectors_first index = let e = t.each 0 t.some ∙ sectors_none runs in omega (arith, e)

  pub sectors_found : (at index : ℕ) → at < length firsts → slice_index firsts at ≤ index → (at + 1 < length firsts → index < slice_index firsts (at + 1)) →
      index < length (sectors_of runs)
      → (at < length runs) × (index - slice_index firsts at < pieces (run_at runs at).step (run_at runs at).start (run_at runs at).stop) ×
      (sectors_before runs at + (index - slice_index firsts at) ≡ index)
  sectors_found at index l low high inside =
      let here : at < length runs = omega (arith, l, t.long) in
      let e = t.each at here in
      let next = sectors_next 1 runs at here in
      let over : index < sectors_before runs (at + 1) = elim (cases_lt (at + 1) (length runs)) [
        | inl more ↦ (let e2 = t.each (at + 1) more in omega (arith, e2, high (omega (arith, more, t.long))))
        | inr last ↦ (let e2 = sectors_all runs (at + 1) last in omega (arith, e2, inside))
      ] in
      (here, omega (arith, e, next, over, low), omega (arith, e, low))

module _ (page : ℕ) (runs : List Run) (firsts : List ℕ) (t : AreFirstPages page runs firsts) where
  pub pages_rising : (i j : ℕ) → i ≤ j → j < length firsts → slice_index firsts i ≤ slice_index firsts j
  pages_rising i j h l =
      let e1 = t.each i (omega (arith, h, l, t.long)) in let e2 = t.each j (omega (arith, l, t.long)) in omega (arith, e1, e2, pages_rise page runs i j h)

  pub pages_first : (index : ℕ) → slice_index firsts 0 ≤ index
  pages_first index = let e = t.each 0 t.some ∙ pages_none page runs in omega (arith, e)

  pub each_some : (at : ℕ) → at < length runs → 0 < pieces page 0 (run_at runs at).step
  each_some at h = pieces_some page 0 (run_at runs at).step t.page_some (t.steps at h)

  pub pages_found : (at index : ℕ) → at < length firsts → slice_index firsts at ≤ index → (at + 1 < length firsts → index < slice_index firsts (at + 1)) →
      index < length (pages_of page (sectors_of runs))
      → (at < length runs) × (index - slice_index firsts at < length (pages_of page (cut (run_at runs at).step (run_at runs at).start (run_at runs at).stop))) ×
      (pages_before page runs at + (index - slice_index firsts at) ≡ index)
  pages_found at index l low high inside =
      let here : at < length runs = omega (arith, l, t.long) in
      let e = t.each at here in
      let next = pages_next page runs at here in
      let over : index < pages_before page runs (at + 1) = elim (cases_lt (at + 1) (length runs)) [
        | inl more ↦ (let e2 = t.each (at + 1) more in omega (arith, e2, high (omega (arith, more, t.long))))
        | inr last ↦ (let e2 = pages_all page runs (at + 1) last in omega (arith, e2, inside))
      ] in
      (here, omega (arith, e, next, over, low), omega (arith, e, low))

  -- the sector's number in the run, and the page's number in the sector
  pub page_parts : (at index each : ℕ) → at < length firsts → slice_index firsts at ≤ index → (at + 1 < length firsts → index < slice_index firsts (at + 1)) →
      index < length (pages_of page (sectors_of runs))
      → each ≡ pieces page 0 (run_at runs at).step
      → let run = run_at runs at in let left : ℕ = index - slice_index firsts at in let s = piece run.step run.start run.stop (left / each) in
      (left / each < pieces run.step run.start run.stop) × (left % each < pieces page s.start s.stop) ×
      (pages_before page runs at + (left / each * pieces page 0 run.step + left % each) ≡ index)
  page_parts at index each l low high inside e =
      let x = pages_found at index l low high inside in
      let run = run_at runs at in
      let left : ℕ = index - slice_index firsts at in
      let y = run_find_page page run.step run.start run.stop t.page_some (t.steps at x.0) left x.1 in
      let goal = λ (n : ℕ). let s = piece run.step run.start run.stop (left / n) in
      (left / n < pieces run.step run.start run.stop) × (left % n < pieces page s.start s.stop) ×
      (pages_before page runs at + (left / n * pieces page 0 run.step + left % n) ≡ index) in
      let whole : pages_before page runs at + (left / pieces page 0 run.step * pieces page 0 run.step + left % pieces page 0 run.step) ≡ index =
      ap (λ (n : ℕ). pages_before page runs at + n) (div-add-mod' left (pieces page 0 run.step)) ∙ x.2 in
      subst (λ (n : ℕ). goal n) (sym e) (y.0, y.1, whole)

module _ (size : ℕ) (runs : List Run) (starts : List ℕ) (t : AreRuns size runs starts) where
  pub place_found : (at place : ℕ) → at < length starts → slice_index starts at ≤ place → (at + 1 < length starts → place < slice_index starts (at + 1)) →
      place < size
      → let run = run_at runs at in let k : ℕ = (place - slice_index starts at) / run.step in
      (k < pieces run.step run.start run.stop) × In place (piece run.step run.start run.stop k)
  place_found at place l low high inside =
      let here : at < length runs = omega (arith, l, t.long) in
      let run = run_at runs at in
      let e = t.each at here in
      let some = t.steps at here in
      let under : place < run.stop = elim (cases_lt (at + 1) (length runs)) [
        | inl more ↦ (let e2 = t.stops_next at more in omega (arith, e2, high (omega (arith, more, t.long)), inside))
        | inr last ↦ (let e2 = t.stops_last at (omega (arith, last, here)) in omega (arith, e2, inside))
      ] in
      let k : ℕ = (place - slice_index starts at) / run.step in
      let parts = div-add-mod' (place - slice_index starts at) run.step in
      let less = mod_below (place - slice_index starts at) run.step some in
      let from : run.start + k * run.step ≤ place = omega (arith, parts, e, low) in
      (pieces_above run.step run.start run.stop k some (omega (arith, from, under)), (from, omega (arith, parts, less, e, low, under)))
