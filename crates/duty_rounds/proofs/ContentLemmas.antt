-- Sectors and pages that are emptied one after the other.
use Rattle.std.proofs.Common.{◌≡◌, ◌<◌, ◌≤◌, ◌+◌, inl, inr, ℕ, zero, suc, Bool, true, false, List, [], ◌∷◌, length, get_or, slice_index, sym, subst, arith}
use Rattle.std.proofs.lemmas.Bool.{cases_lt}
use Rattle.flm_descriptor.specs.Shape.{range_at}
use Rattle.duty_trials.specs.declared.list.Work.TheVariants as work
use Rattle.duty_trials.specs.declared.subject.Subject.{Subject}
use Rattle.duty_trials.specs.declared.subject.Span.{Span}
use Rattle.duty_trials.specs.Ended.{OnlyBetween}
use Rattle.duty_trials.specs.Lists.{MayWork}
use Rattle.duty_trials.specs.Subjects.{setup_for, site_in, IsSpan}
use Rattle.duty_trials.proofs.SubjectLemmas.{layout_good}
use Rattle.duty_trials.proofs.WorkLemmas.{emptied, stays_empty}

-- an emptied page may be programmed
pub page_emptied : (t : Subject) (k : ℕ) (span : Span) (x y : List ℕ) → k < length (site_in t).layout.pages →
    IsSpan t (range_at (site_in t).layout.pages k) span
    → length x ≡ t.cells → OnlyBetween span.from span.to x y → ((i : ℕ) → span.from ≤ i → i < span.to → slice_index y i ≡ t.algorithm.now.device.empty)
    → MayWork (setup_for t) (site_in t) y work.Pages k
page_emptied t k span x y less is long only put =
    emptied t (range_at (site_in t).layout.pages k) span x y is long ((layout_good t).pages_part.below k less) only put

-- a page that was empty stays empty when another page is emptied
pub page_stays_empty : (t : Subject) (j : ℕ) (span : Span) (x y : List ℕ) → j < length (site_in t).layout.pages → OnlyBetween span.from span.to x y
    → ((i : ℕ) → span.from ≤ i → i < span.to → slice_index y i ≡ t.algorithm.now.device.empty) → MayWork (setup_for t) (site_in t) x work.Pages j
    → MayWork (setup_for t) (site_in t) y work.Pages j
page_stays_empty t j span x y less only put may =
    stays_empty t (range_at (site_in t).layout.pages j) span.from span.to x y ((layout_good t).pages_part.below j less) only put may

-- the members of a set below a number may be programmed
abbrev pub MayBelow : Subject → List Bool → ℕ → List ℕ → Type 0
MayBelow t set n x = (k : ℕ) → k < n → get_or set k false ≡ true → MayWork (setup_for t) (site_in t) x work.Pages k

pub may_more : (t : Subject) (set : List Bool) (n : ℕ) (x y : List ℕ) → MayBelow t set n x → n < length (site_in t).layout.pages
    → (get_or set n false ≡ true → MayWork (setup_for t) (site_in t) y work.Pages n)
    → ((k : ℕ) → k < length (site_in t).layout.pages → MayWork (setup_for t) (site_in t) x work.Pages k → MayWork (setup_for t) (site_in t) y work.Pages k)
    → MayBelow t set (n + 1) y
may_more t set n x y so less here others = λ k below is. elim (cases_lt k n) [
  | inl under ↦ others k (omega (arith, under, less)) (so k under is)
  | inr above ↦
      let same : k ≡ n = omega (arith, below, above) in
      subst (λ (j : ℕ). MayWork (setup_for t) (site_in t) y work.Pages j) (sym same) (here (subst (λ (j : ℕ). get_or set j false ≡ true) same is))
]

-- a member of a set is below the set's length
pub member_inside : (set : List Bool) (k : ℕ) → get_or set k false ≡ true → k < length set
member_inside [] k is = let wrong : false ≡ true = is in absurd cc
member_inside (b ∷ rest) zero is = omega arith
member_inside (b ∷ rest) (suc k) is = omega (arith, member_inside rest k is)
