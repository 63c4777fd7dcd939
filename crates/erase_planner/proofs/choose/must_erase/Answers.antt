-- `must_erase`: the value that it answers, and that its loop keeps its invariant.
use Rattle.std.proofs.Common.{◌≡◌, ℕ, ◌∙◌, sym, ap, arith, inl, inr}
use Rattle.std.proofs.lemmas.Bool.{cases_lt}
use Rattle.erase_planner.specs.Marks.{mark_at, needs_erasure}
use Rattle.erase_planner.proofs.FillLemmas.{erases_found, erases_none}
use Rattle.erase_planner.proofs.choose.must_erase.Goals as goal

pub returns-then-needs : goal.returns-then-needs
returns-then-needs c = erases_found c.args.geometry.now c.args.marks.now c.args.sector c.pages_of-first.result.0 c.pages_of-first.result.1 c.loop-page.page
    c.pages_of-first.ensures (omega arith) (omega arith) (sym c.needs_erasure-needs.ensures ∙ c.if-needs.true)

pub loop-page-preserved : goal.loop-page-preserved
loop-page-preserved c p from under = elim (cases_lt p c.loop-page.page) [
  | inl before ↦ c.loop-page.invariant p from before
  | inr after ↦ (let same : p ≡ c.loop-page.page = omega (arith, after, under) in ap (λ (q : ℕ). needs_erasure (mark_at c.args.marks.now q)) same ∙
      sym c.needs_erasure-needs.ensures ∙ c.if-needs.false)
]

pub returns : goal.returns
returns c = erases_none c.args.geometry.now c.args.marks.now c.args.sector c.pages_of-first.result.0 c.pages_of-first.result.1 c.pages_of-first.ensures
    (λ p from under. c.loop-page.invariant p from (omega (arith, under, c.loop-page-test.false)))
