-- `fill_none`: that its loop keeps its invariant, and what `push_within` requires.
use Rattle.std.proofs.Common.{length, arith, ◌∙◌, ap, sym, [], ◌∷◌, ◌++◌, List, Bool, false, refl}
use Rattle.erase_planner.proofs.FillLemmas.{tests_long, tests_more}
use Rattle.erase_planner.proofs.choose.fill_none.Goals as goal

pub push_within-requires : goal.push_within-requires
push_within-requires c =
    let e = ap (λ (bs : List Bool). length bs) c.loop-sector.invariant.set ∙ tests_long c.loop-sector._sector (λ s. false) in
    omega (arith, e, c.loop-sector.invariant.room, c.loop-sector-test.true)

pub loop-sector-preserved : goal.loop-sector-preserved
loop-sector-preserved c = record {
  set = c.push_within.ensures.items ∙ ap (λ (bs : List Bool). bs ++ false ∷ []) c.loop-sector.invariant.set ∙
      sym (tests_more c.loop-sector._sector (λ s. false) false refl);
  room = omega (arith, c.push_within.ensures.spare, c.loop-sector.invariant.room);
  spare = omega (arith, c.push_within.ensures.spare, c.loop-sector.invariant.spare);
}
