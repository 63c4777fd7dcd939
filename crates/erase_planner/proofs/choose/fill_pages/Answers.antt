-- `fill_pages`: that its loop keeps its invariant, and what `push_within` requires.
use Rattle.std.proofs.Common.{ℕ, length, arith, ◌∙◌, ap, sym, cond, [], ◌∷◌, ◌++◌, List, Bool}
use Rattle.erase_planner.specs.Marks.{programs_by}
use Rattle.erase_planner.proofs.FillLemmas.{tests_long, tests_more, count_more, count_start}
use Rattle.erase_planner.proofs.choose.fill_pages.Goals as goal
use Rattle.erase_planner.proofs.choose.fill_pages.Goals.{then-must, else-must}

pub loop-page-init : goal.loop-page-init
loop-page-init c = record {
  set = c.clear.ensures.items;
  room = omega (arith, c.clear.ensures.capacity, c.requires.room);
  spare = omega (arith, c.clear.ensures.capacity);
  count = count_start (programs_by c.args.geometry.now c.args.marks.now c.args.sectors.now);
  few = omega arith;
}

pub loop-page-preserved : goal.loop-page-preserved
loop-page-preserved c =
    let n : ℕ = c.loop-page.page in
    let e = c.must_program-must.ensures in
    record {
      set = c.push_within.ensures.items ∙ ap (λ (bs : List Bool). bs ++ c.must_program-must.result ∷ []) c.loop-page.invariant.set ∙
          sym (tests_more n (programs_by c.args.geometry.now c.args.marks.now c.args.sectors.now) c.must_program-must.result e);
      room = omega (arith, c.push_within.ensures.spare, c.loop-page.invariant.room);
      spare = omega (arith, c.push_within.ensures.spare, c.loop-page.invariant.spare);
      count = (let more = count_more n (programs_by c.args.geometry.now c.args.marks.now c.args.sectors.now) c.must_program-must.result e in
          elim c.if-must.branch [
            | then-must w ↦ (let one = ap (λ (b : Bool). let r : ℕ = cond b 1 0 in r) w.if-must.true in
                omega (arith, more, one, w.count-is, c.loop-page.invariant.count))
            | else-must w ↦ (let one = ap (λ (b : Bool). let r : ℕ = cond b 1 0 in r) w.if-must.false in
                omega (arith, more, one, w.count-is, c.loop-page.invariant.count))
          ]);
      few = elim c.if-must.branch [ then-must w ↦ omega arith | else-must w ↦ omega arith ];
    }

pub push_within-requires : goal.push_within-requires
push_within-requires c =
    let e = ap (λ (bs : List Bool). length bs) c.loop-page.invariant.set ∙
    tests_long c.loop-page.page (programs_by c.args.geometry.now c.args.marks.now c.args.sectors.now) in
    omega (arith, e, c.loop-page.invariant.room, c.loop-page-test.true, c.pages-page-end.ensures.count)
