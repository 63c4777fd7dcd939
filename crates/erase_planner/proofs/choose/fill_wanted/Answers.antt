-- `fill_wanted`: that its loop keeps its invariant, and what `push_within` requires.
use Rattle.std.proofs.Common.{length, arith, ◌∙◌, ap, sym, [], ◌∷◌, ◌++◌, List, Bool, refl}
use Rattle.erase_planner.specs.Marks.{wanted_by}
use Rattle.erase_planner.proofs.FillLemmas.{tests_long, tests_more}
use Rattle.erase_planner.proofs.choose.fill_wanted.Goals as goal

pub push_within-requires : goal.push_within-requires
push_within-requires c =
    let e = ap (λ (bs : List Bool). length bs) c.loop-page.invariant.set ∙ tests_long c.loop-page.page (wanted_by c.args.marks.now) in
    omega (arith, e, c.loop-page.invariant.room, c.loop-page-test.true)

pub loop-page-preserved : goal.loop-page-preserved
loop-page-preserved c = record {
  set = c.push_within.ensures.items ∙ ap (λ (bs : List Bool). bs ++ wanted_by c.args.marks.now c.loop-page.page ∷ []) c.loop-page.invariant.set ∙
      sym (tests_more c.loop-page.page (wanted_by c.args.marks.now) (wanted_by c.args.marks.now c.loop-page.page) refl);
  room = omega (arith, c.push_within.ensures.spare, c.loop-page.invariant.room);
  spare = omega (arith, c.push_within.ensures.spare, c.loop-page.invariant.spare);
}
