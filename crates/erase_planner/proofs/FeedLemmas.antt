-- What one more byte does to the marks, for `feed_marks`.
use Rattle.std.proofs.Common.{get_or-set_same, get_or-set_other, ◌≡◌, ℕ, ◌+◌, ◌-◌, ◌<◌, Bool, true, false, not, ◌||◌, nat_eq, refl, sym, ap, subst, arith}
use Rattle.std.proofs.Common.{slice_index, ◌∙◌, List, [], ◌∷◌, ◌++◌, length, get_or, set, inl, inr}
use Rattle.std.proofs.Math.ListN.{length-set}
use Rattle.std.proofs.lemmas.Bool.{or_cases, or_left, or_right, cases_lt, cases_eq, false_from_ne_true}
use Rattle.std.proofs.lemmas.List.{get_or_append_left, get_or-append_right}
use Rattle.erase_planner.specs.declared.marks.Mark.{Mark}
use Rattle.flm_descriptor.specs.Shape.{Range, range_at}
use Rattle.page_geometry.specs.Geometry.{In, Geometry, IsGeometry}
use Rattle.page_geometry.specs.Cells.{some_in, is_used, differs}
use Rattle.page_geometry.proofs.TestLemmas.{same_tests, some_in_from, some_in_at}
use Rattle.page_geometry.proofs.BuiltLemmas.{pushed_long}
use Rattle.erase_planner.specs.Marks.{seen, mark_of, mark_at, with_byte, AreMarks}

-- one more byte, in the range
more_inside : (r : Range) (n : ℕ) (t u : ℕ → Bool) → In n r → ((i : ℕ) → i < n → u i ≡ t i) → some_in (seen r (n + 1)) u ≡ (some_in (seen r n) t || u n)
more_inside r n t u h same = same_tests _ _
    (λ e. let x = some_in_at (seen r (n + 1)) u e in
    elim (cases_lt x.0 n) [
      | inl before ↦ or_left _ _ (some_in_from (seen r n) t x.0 (x.1.0, omega (arith, x.1.1, before)) (sym (same x.0 before) ∙ x.2))
      | inr after ↦ (let e2 : x.0 ≡ n = omega (arith, after, x.1.1) in or_right _ _ (subst (λ (i : ℕ). u i ≡ true) e2 x.2))
    ])
    (λ e. elim (or_cases (some_in (seen r n) t) (u n) e) [
      | inl a ↦ (let x = some_in_at (seen r n) t a in
          some_in_from (seen r (n + 1)) u x.0 (x.1.0, omega (arith, x.1.1)) (same x.0 (omega (arith, x.1.1)) ∙ x.2))
      | inr b ↦ some_in_from (seen r (n + 1)) u n (h.0, omega (arith, h.1)) b
    ])

-- one more byte, outside the range
more_outside : (r : Range) (n : ℕ) (t u : ℕ → Bool) → (In n r → ⊥) → ((i : ℕ) → i < n → u i ≡ t i) → some_in (seen r (n + 1)) u ≡ some_in (seen r n) t
more_outside r n t u h same =
    let before : (i : ℕ) → In i (seen r (n + 1)) → i < n = λ i hi. elim (cases_lt i n) [
      | inl l ↦ l
      | inr g ↦ (let e : i ≡ n = omega (arith, g, hi.1) in absurd (h (omega (arith, e, hi.0), omega (arith, e, hi.1))))
    ] in
    same_tests _ _
    (λ e. let x = some_in_at (seen r (n + 1)) u e in let b = before x.0 x.1 in
    some_in_from (seen r n) t x.0 (x.1.0, omega (arith, x.1.1, b)) (sym (same x.0 b) ∙ x.2))
    (λ e. let x = some_in_at (seen r n) t e in
    some_in_from (seen r (n + 1)) u x.0 (x.1.0, omega (arith, x.1.1)) (same x.0 (omega (arith, x.1.1)) ∙ x.2))

pushed_same : (xs : List ℕ) (x n i : ℕ) → length xs ≡ n → i < n → slice_index (xs ++ x ∷ []) i ≡ slice_index xs i
pushed_same xs x n i e h = get_or_append_left xs (x ∷ []) 0 i (omega (arith, e, h))

pushed_last : (xs : List ℕ) (x n : ℕ) → length xs ≡ n → slice_index (xs ++ x ∷ []) n ≡ x
pushed_last xs x n e = get_or-append_right xs (x ∷ []) n n 0 e (omega arith) ∙ (let z : n - n ≡ 0 = omega arith in ap (λ (i : ℕ). get_or (x ∷ []) i 0) z)

module _ (l : Geometry) (empty : ℕ) (old want : List ℕ) (n x y : ℕ) (old_long : length old ≡ n) (want_long : length want ≡ n) where
  same_differs : (i : ℕ) → i < n → not (nat_eq (slice_index (old ++ x ∷ []) i) (slice_index (want ++ y ∷ []) i)) ≡ not
      (nat_eq (slice_index old i) (slice_index want i))
  same_differs i h = cc (pushed_same old x n i old_long h, pushed_same want y n i want_long h)

  same_old : (i : ℕ) → i < n → not (nat_eq (slice_index (old ++ x ∷ []) i) empty) ≡ not (nat_eq (slice_index old i) empty)
  same_old i h = cc (pushed_same old x n i old_long h)

  same_want : (i : ℕ) → i < n → not (nat_eq (slice_index (want ++ y ∷ []) i) empty) ≡ not (nat_eq (slice_index want i) empty)
  same_want i h = cc (pushed_same want y n i want_long h)

  abbrev marked : Mark → Mark
  marked m = with_byte empty x y m

  mark_inside : (p : ℕ) → In n (range_at l.pages p) → mark_of l empty (old ++ x ∷ []) (want ++ y ∷ []) p ≡ marked (mark_of l empty old want p)
  unfolding mark_of differs is_used
  mark_inside p h =
      let r = range_at l.pages p in
      let a = more_inside r n (λ i. not (nat_eq (slice_index old i) (slice_index want i)))
      (λ i. not (nat_eq (slice_index (old ++ x ∷ []) i) (slice_index (want ++ y ∷ []) i))) h same_differs in
      let b = more_inside r n (λ i. not (nat_eq (slice_index old i) empty)) (λ i. not (nat_eq (slice_index (old ++ x ∷ []) i) empty)) h same_old in
      let c = more_inside r n (λ i. not (nat_eq (slice_index want i) empty)) (λ i. not (nat_eq (slice_index (want ++ y ∷ []) i) empty)) h same_want in
      rw (
        pushed_long old n x old_long,
        pushed_long want n y want_long,
        old_long,
        want_long,
        a,
        b,
        c,
        pushed_last old x n old_long,
        pushed_last want y n want_long,
      ) refl

  mark_outside : (p : ℕ) → (In n (range_at l.pages p) → ⊥) → mark_of l empty (old ++ x ∷ []) (want ++ y ∷ []) p ≡ mark_of l empty old want p
  unfolding mark_of differs is_used
  mark_outside p h =
      let r = range_at l.pages p in
      let a = more_outside r n (λ i. not (nat_eq (slice_index old i) (slice_index want i)))
      (λ i. not (nat_eq (slice_index (old ++ x ∷ []) i) (slice_index (want ++ y ∷ []) i))) h same_differs in
      let b = more_outside r n (λ i. not (nat_eq (slice_index old i) empty)) (λ i. not (nat_eq (slice_index (old ++ x ∷ []) i) empty)) h same_old in
      let c = more_outside r n (λ i. not (nat_eq (slice_index want i) empty)) (λ i. not (nat_eq (slice_index (want ++ y ∷ []) i) empty)) h same_want in
      rw (pushed_long old n x old_long, pushed_long want n y want_long, old_long, want_long, a, b, c) refl

  -- one more byte changes only the mark of its page
  pub marks_more : IsGeometry l → (marks : List Mark) → AreMarks l empty old want marks → (page : ℕ) → page < length l.pages → In n (range_at l.pages page)
      → AreMarks l empty (old ++ x ∷ []) (want ++ y ∷ []) (set marks page (marked (mark_at marks page)))
  marks_more good marks m page h inside =
      let none : Mark = record { differs = false; old_used = false; want_used = false } in
      let lt : page < length marks = omega (arith, h, m.long) in
      record {
        long = length-set marks page (marked (mark_at marks page)) ∙ m.long;
        each = λ p hp. elim (cases_eq p page) [
          | inl same ↦
              (subst (λ (q : ℕ). mark_at (set marks page (marked (mark_at marks page))) q ≡ mark_of l empty (old ++ x ∷ []) (want ++ y ∷ []) q) (sym same)
              (get_or-set_same marks page (marked (mark_at marks page)) none lt ∙ ap marked (m.each page h) ∙ sym (mark_inside page inside)))
          | inr other ↦
              (get_or-set_other marks page p (marked (mark_at marks page)) none other ∙ m.each p hp
              ∙ sym (mark_outside p (λ hn. other (good.pages_part.apart p page n hn inside))))
        ];
      }

-- before any byte the marks are blank
pub mark_blank : (l : Geometry) (empty p : ℕ) → mark_at [] p ≡ mark_of l empty [] [] p
unfolding mark_of differs is_used
mark_blank l empty p =
    let r = range_at l.pages p in
    let nothing : (t : ℕ → Bool) → some_in (seen r 0) t ≡ false = λ t. false_from_ne_true _ (λ e. let x = some_in_at (seen r 0) t e in omega (arith, x.1.1)) in
    rw (nothing (λ i. not (nat_eq (slice_index [] i) (slice_index [] i))), nothing (λ i. not (nat_eq (slice_index [] i) empty))) refl
