-- The sets of the chosen plan, element by element, for the code that fills them and the lemmas that look elements up.
use Rattle.std.proofs.Common.{◌≡◌, ℕ, ◌<◌, true, ◌&&◌, nat_le, nat_lt, cond, slice_index, List, length, zero-add}
use Rattle.std.proofs.lemmas.Bool.{and_from, and_parts, le-leb, leb-true, lt-ltb, ltb-true}
use Rattle.std.proofs.lemmas.List.FromFn.{get_or-map-range_with_len}
use Rattle.flm_descriptor.specs.Shape.{Range, range_at}
use Rattle.page_geometry.specs.Geometry.{In, Within, Geometry}
use Rattle.page_geometry.specs.Cells.{is_used, differs}
use Rattle.page_geometry.proofs.TestLemmas.{some_below_from, some_below_at}
use Rattle.erase_planner.specs.Plans.{has_page, must_erase, is_erased, once_erased}

pub within_from : (sector page : Range) → has_page sector page ≡ true → Within page sector
within_from sector page e =
    let both : (nat_le sector.start page.start ≡ true) × (nat_le page.stop sector.stop ≡ true) = and_parts _ _ e in
    (leb-true _ _ both.0, leb-true _ _ both.1)

pub has_page_from : (sector page : Range) → Within page sector → has_page sector page ≡ true
has_page_from sector page w = and_from _ _ (le-leb _ _ w.0) (le-leb _ _ w.1)

module _ (l : Geometry) (empty : ℕ) (old want : List ℕ) where
  pub must_erase_from : (s p : ℕ) → p < length l.pages → Within (range_at l.pages p) (range_at l.sectors s) → differs (range_at l.pages p) old want ≡ true →
      is_used empty (range_at l.pages p) old ≡ true → must_erase l empty old want s ≡ true
  unfolding must_erase
  must_erase_from s p hp w d u =
      some_below_from (length l.pages) (λ q. has_page (range_at l.sectors s) (range_at l.pages q) &&
      (differs (range_at l.pages q) old want && is_used empty (range_at l.pages q) old)) p hp
      (and_from _ _ (has_page_from _ _ w) (and_from _ _ d u))

  pub must_erase_at : (s : ℕ) → must_erase l empty old want s ≡ true
      → (p : ℕ) × (p < length l.pages) × Within (range_at l.pages p) (range_at l.sectors s) × (differs (range_at l.pages p) old want ≡ true) ×
      (is_used empty (range_at l.pages p) old ≡ true)
  unfolding must_erase
  must_erase_at s e =
      let x : (p : ℕ) × (p < length l.pages) × ((has_page (range_at l.sectors s) (range_at l.pages p) &&
      (differs (range_at l.pages p) old want && is_used empty (range_at l.pages p) old)) ≡ true) =
      some_below_at (length l.pages) (λ q. has_page (range_at l.sectors s) (range_at l.pages q) &&
      (differs (range_at l.pages q) old want && is_used empty (range_at l.pages q) old)) e in
      let first = and_parts (has_page (range_at l.sectors s) (range_at l.pages x.0))
      (differs (range_at l.pages x.0) old want && is_used empty (range_at l.pages x.0) old) x.2 in
      let second = and_parts (differs (range_at l.pages x.0) old want) (is_used empty (range_at l.pages x.0) old) first.1 in
      (x.0, x.1, within_from _ _ first.0, second.0, second.1)

  pub is_erased_from : (s i : ℕ) → s < length l.sectors → must_erase l empty old want s ≡ true → In i (range_at l.sectors s) →
      is_erased l empty old want i ≡ true
  unfolding is_erased
  is_erased_from s i hs m h =
      some_below_from (length l.sectors) (λ t. must_erase l empty old want t && (nat_le (range_at l.sectors t).start i && nat_lt i (range_at l.sectors t).stop))
      s hs
      (and_from _ _ m (and_from _ _ (le-leb _ _ h.0) (lt-ltb _ _ h.1)))

  pub is_erased_at : (i : ℕ) → is_erased l empty old want i ≡ true → (s : ℕ) × (s < length l.sectors) × (must_erase l empty old want s ≡ true) ×
      In i (range_at l.sectors s)
  unfolding is_erased
  is_erased_at i e =
      let x : (s : ℕ) × (s < length l.sectors) × ((must_erase l empty old want s &&
      (nat_le (range_at l.sectors s).start i && nat_lt i (range_at l.sectors s).stop)) ≡ true) =
      some_below_at (length l.sectors) (λ t. must_erase l empty old want t && (nat_le (range_at l.sectors t).start i && nat_lt i (range_at l.sectors t).stop))
      e in
      let first = and_parts (must_erase l empty old want x.0) (nat_le (range_at l.sectors x.0).start i && nat_lt i (range_at l.sectors x.0).stop) x.2 in
      let second = and_parts (nat_le (range_at l.sectors x.0).start i) (nat_lt i (range_at l.sectors x.0).stop) first.1 in
      (x.0, x.1, first.0, (leb-true _ _ second.0, ltb-true _ _ second.1))

  pub once_at : (i : ℕ) → i < length old → slice_index (once_erased l empty old want) i ≡ cond (is_erased l empty old want i) empty (slice_index old i)
  unfolding once_erased
  once_at i h = get_or-map-range_with_len (λ (k : ℕ). cond (is_erased l empty old want k) empty (slice_index old k)) 0 (length old) i i 0 h (zero-add i)
