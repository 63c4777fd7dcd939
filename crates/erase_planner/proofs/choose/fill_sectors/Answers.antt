-- `fill_sectors`: that its loop keeps its invariant, and what `push_within` requires.
use Rattle.std.proofs.Common.{ℕ, length, arith, ◌∙◌, ap, sym, cond, [], ◌∷◌, ◌++◌, List, Bool}
use Rattle.erase_planner.specs.Marks.{erases_by}
use Rattle.erase_planner.proofs.FillLemmas.{tests_long, tests_more, count_more, count_start}
use Rattle.erase_planner.proofs.choose.fill_sectors.Goals as goal
use Rattle.erase_planner.proofs.choose.fill_sectors.Goals.{then-must, else-must}

pub loop-sector-init : goal.loop-sector-init
loop-sector-init c = record {
  set = c.clear.ensures.items;
  room = omega (arith, c.clear.ensures.capacity, c.requires.room);
  spare = omega (arith, c.clear.ensures.capacity);
  count = count_start (erases_by c.args.geometry.now c.args.marks.now);
  few = omega arith;
}

pub loop-sector-preserved : goal.loop-sector-preserved
loop-sector-preserved c =
    let n : ℕ = c.loop-sector.sector in
    let e = c.must_erase-must.ensures in
    record {
      set = c.push_within.ensures.items ∙ ap (λ (bs : List Bool). bs ++ c.must_erase-must.result ∷ []) c.loop-sector.invariant.set ∙
          sym (tests_more n (erases_by c.args.geometry.now c.args.marks.now) c.must_erase-must.result e);
      room = omega (arith, c.push_within.ensures.spare, c.loop-sector.invariant.room);
      spare = omega (arith, c.push_within.ensures.spare, c.loop-sector.invariant.spare);
      count = (let more = count_more n (erases_by c.args.geometry.now c.args.marks.now) c.must_erase-must.result e in elim c.if-must.branch [
        | then-must w ↦ (let one = ap (λ (b : Bool). let r : ℕ = cond b 1 0 in r) w.if-must.true in
            omega (arith, more, one, w.count-is, c.loop-sector.invariant.count))
        | else-must w ↦ (let one = ap (λ (b : Bool). let r : ℕ = cond b 1 0 in r) w.if-must.false in
            omega (arith, more, one, w.count-is, c.loop-sector.invariant.count))
      ]);
      few = elim c.if-must.branch [ then-must w ↦ omega arith | else-must w ↦ omega arith ];
    }

pub push_within-requires : goal.push_within-requires
push_within-requires c =
    let e = ap (λ (bs : List Bool). length bs) c.loop-sector.invariant.set ∙ tests_long c.loop-sector.sector (erases_by c.args.geometry.now c.args.marks.now) in
    omega (arith, e, c.loop-sector.invariant.room, c.loop-sector-test.true, c.sectors-sector-end.ensures.count)
