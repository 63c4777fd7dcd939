-- `start_marks`: that its loop keeps its invariant.
use Rattle.std.proofs.Common.{◌≡◌, ℕ, ◌+◌, ◌<◌, length, arith, ◌∙◌, ap, [], ◌∷◌, ◌++◌, List, false}
use Rattle.erase_planner.specs.Marks.{mark_at}
use Rattle.std.proofs.Common.{◌-◌, inl, inr}
use Rattle.std.proofs.lemmas.Bool.{cases_lt}
use Rattle.std.proofs.lemmas.List.{get_or_append_left, get_or-append_right, length-append}
use Rattle.erase_planner.specs.declared.marks.Mark.{Mark}
use Rattle.erase_planner.proofs.marks.start_marks.Goals as goal

abbrev none : Mark
none = record { differs = false; old_used = false; want_used = false }

all_blank : (marks : List Mark) (n : ℕ) → length marks ≡ n → ((p : ℕ) → p < n → mark_at marks p ≡ none) →
    (p : ℕ) → p < n + 1 → mark_at (marks ++ none ∷ []) p ≡ none
all_blank marks n long blank p h = elim (cases_lt p n) [
  | inl before ↦ get_or_append_left marks (none ∷ []) none p (omega (arith, before, long)) ∙ blank p before
  | inr after ↦ get_or-append_right marks (none ∷ []) n p none long after ∙
      (let z : p - n ≡ 0 = omega (arith, after, h) in ap (λ (i : ℕ). mark_at (none ∷ []) i) z)
]

pub loop-page-preserved : goal.loop-page-preserved
loop-page-preserved c = record {
  long = ap (λ (ms : List Mark). length ms) c.push_blank.ensures.items ∙ length-append _ (none ∷ []) ∙ omega (arith, c.loop-page.invariant.long);
  blank = λ p h. ap (λ (ms : List Mark). mark_at ms p) c.push_blank.ensures.items ∙
      all_blank c.loop-page.marks.items c.loop-page._page c.loop-page.invariant.long c.loop-page.invariant.blank p h;
  room = omega (arith, c.push_blank.ensures.spare, c.loop-page.invariant.room);
  spare = omega (arith, c.push_blank.ensures.spare, c.loop-page.invariant.spare);
}
