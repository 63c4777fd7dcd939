-- The sets of a plan, filled from the marks element by element.
use Rattle.std.proofs.Common.{◌≡◌, ℕ, zero, suc, ◌+◌, ◌<◌, ◌≤◌, Bool, true, false, ◌&&◌, cond, refl, sym, ap, subst, arith, ◌∙◌, List, [], ◌∷◌, ◌++◌, map}
use Rattle.std.proofs.Common.{length, get_or, zero-add}
use Rattle.std.proofs.lemmas.Bool.{and_from, and_parts, both_ways, false_from_ne_true, cond-true, cond-false}
use Rattle.std.proofs.lemmas.List.FromFn.{map-range_with_len_more, get_or-map-range_with_len, length-map-range_with_len}
use Rattle.std.specs.List.{range_with_len}
use Rattle.erase_planner.specs.declared.marks.Mark.{Mark}
use Rattle.flm_descriptor.specs.Shape.{range_at}
use Rattle.page_geometry.specs.Geometry.{In, Within, Geometry, IsGeometry, ArePagesOf}
use Rattle.page_geometry.specs.Cells.{count_below}
use Rattle.page_geometry.proofs.TestLemmas.{same_tests, some_below_from, some_below_at}
use Rattle.erase_planner.specs.Plans.{has_page, tests}
use Rattle.erase_planner.specs.Marks.{mark_at, needs_erasure, erases_by, lies_in, programs_by}
use Rattle.erase_planner.proofs.SetLemmas.{within_from, has_page_from}
use Rattle.page_geometry.proofs.GeometryLemmas.{page_within}

map_same : (n a : ℕ) (t u : ℕ → Bool) → ((k : ℕ) → k < a + n → t k ≡ u k) → map t (range_with_len a n) ≡ map u (range_with_len a n)
map_same zero a t u h = refl
map_same (suc n) a t u h =
    let first = h a (omega arith) in let rest = map_same n (a + 1) t u (λ k l. h k (omega (arith, l))) in cc

pub tests_same : (n : ℕ) (t u : ℕ → Bool) → ((k : ℕ) → k < n → t k ≡ u k) → tests n t ≡ tests n u
tests_same n t u h = map_same n 0 t u (λ k l. h k (omega (arith, l)))

pub tests_long : (n : ℕ) (t : ℕ → Bool) → length (tests n t) ≡ n
tests_long n t = length-map-range_with_len t 0 n

pub tests_more : (n : ℕ) (t : ℕ → Bool) (b : Bool) → b ≡ t n → tests (n + 1) t ≡ tests n t ++ b ∷ []
tests_more n t b e = map-range_with_len_more t 0 n n (zero-add n) ∙ ap (λ (x : Bool). tests n t ++ x ∷ []) (sym e)

pub count_more : (n : ℕ) (t : ℕ → Bool) (b : Bool) → b ≡ t n → count_below (n + 1) t ≡ count_below n t + cond b 1 0
unfolding count_below
count_more n t b e = let s : n + 1 ≡ suc n = omega arith in ap (λ (m : ℕ). count_below m t) s ∙ ap (λ (x : Bool). count_below n t + cond x 1 0) (sym e)

pub count_start : (t : ℕ → Bool) → 0 ≡ count_below 0 t
unfolding count_below
count_start t = refl

pub tests_at : (n : ℕ) (t : ℕ → Bool) (k : ℕ) → k < n → get_or (tests n t) k false ≡ t k
tests_at n t k h = get_or-map-range_with_len t 0 n k k false h (zero-add k)

-- ---- a sector by the marks of its pages

pub erases_found : (l : Geometry) (marks : List Mark) (s first count p : ℕ) → ArePagesOf l s first count → first ≤ p → p < first + count →
    needs_erasure (mark_at marks p) ≡ true → true ≡ erases_by l marks s
unfolding erases_by
erases_found l marks s first count p are from under needs =
    sym (some_below_from (length l.pages) (λ q. has_page (range_at l.sectors s) (range_at l.pages q) && needs_erasure (mark_at marks q)) p
    (omega (arith, are.in_all, under)) (and_from _ _ (has_page_from _ _ (are.within p from under)) needs))

pub erases_none : (l : Geometry) (marks : List Mark) (s first count : ℕ) → ArePagesOf l s first count →
    ((p : ℕ) → first ≤ p → p < first + count → needs_erasure (mark_at marks p) ≡ false) → false ≡ erases_by l marks s
unfolding erases_by
erases_none l marks s first count are none =
    sym (false_from_ne_true _ (λ e.
    let t = λ (q : ℕ). has_page (range_at l.sectors s) (range_at l.pages q) && needs_erasure (mark_at marks q) in
    let x = some_below_at (length l.pages) t e in
    let a = and_parts (has_page (range_at l.sectors s) (range_at l.pages x.0)) (needs_erasure (mark_at marks x.0)) x.2 in
    let r = are.all x.0 x.1 (within_from _ _ a.0) in
    both_ways _ (none x.0 r.0 r.1) a.1))

-- ---- a page by its sector

module _ (l : Geometry) (good : IsGeometry l) (sectors : List Bool) (p s i : ℕ) (hp : p < length l.pages) (hs : s < length l.sectors)
    (in_page : In i (range_at l.pages p)) (in_sector : In i (range_at l.sectors s)) where
  pub lies_is : lies_in l sectors p ≡ get_or sectors s false
  unfolding lies_in
  lies_is = same_tests _ _
      (λ e. let t = λ (q : ℕ). get_or sectors q false && has_page (range_at l.sectors q) (range_at l.pages p) in
      let x = some_below_at (length l.sectors) t e in
      let a = and_parts (get_or sectors x.0 false) (has_page (range_at l.sectors x.0) (range_at l.pages p)) x.2 in
      let w : Within (range_at l.pages p) (range_at l.sectors x.0) = within_from (range_at l.sectors x.0) (range_at l.pages p) a.1 in
      let same : x.0 ≡ s = good.sectors_part.apart x.0 s i (omega (arith, w.0, in_page.0), omega (arith, w.1, in_page.1)) in_sector in
      subst (λ (n : ℕ). get_or sectors n false ≡ true) same a.0)
      (λ e. some_below_from (length l.sectors) (λ q. get_or sectors q false && has_page (range_at l.sectors q) (range_at l.pages p)) s hs
      (and_from _ _ e (has_page_from _ _ (page_within l good s p i hp in_page in_sector))))

  pub programs_is : (marks : List Mark) → programs_by l marks sectors p ≡ cond (get_or sectors s false) (mark_at marks p).want_used (mark_at marks p).differs
  unfolding programs_by
  programs_is marks = ap (λ (b : Bool). cond b (mark_at marks p).want_used (mark_at marks p).differs) lies_is

  pub programs_yes : (marks : List Mark) → get_or sectors s false ≡ true → (mark_at marks p).want_used ≡ programs_by l marks sectors p
  programs_yes marks e = sym (programs_is marks ∙ cond-true _ _ _ e)

  pub programs_no : (marks : List Mark) → get_or sectors s false ≡ false → (mark_at marks p).differs ≡ programs_by l marks sectors p
  programs_no marks e = sym (programs_is marks ∙ cond-false _ _ _ e)
