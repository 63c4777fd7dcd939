-- `count_wanted`: that its loop keeps its invariant.
use Rattle.std.proofs.Common.{ℕ, arith, ap, cond, Bool, refl}
use Rattle.erase_planner.specs.Marks.{wanted_by}
use Rattle.erase_planner.proofs.FillLemmas.{count_more, count_start}
use Rattle.erase_planner.proofs.choose.count_wanted.Goals as goal
use Rattle.erase_planner.proofs.choose.count_wanted.Goals.{then-wanted, else-wanted}

pub loop-page-init : goal.loop-page-init
loop-page-init c = record { count = count_start (wanted_by c.args.marks.now); few = omega arith }

pub loop-page-preserved : goal.loop-page-preserved
loop-page-preserved c =
    let n : ℕ = c.loop-page.page in
    let more = count_more n (wanted_by c.args.marks.now) (wanted_by c.args.marks.now n) refl in
    record {
      count = elim c.if-wanted.branch [
        | then-wanted w ↦ (let one = ap (λ (b : Bool). let r : ℕ = cond b 1 0 in r) w.if-wanted.true in
            omega (arith, more, one, w.count-is, c.loop-page.invariant.count))
        | else-wanted w ↦ (let one = ap (λ (b : Bool). let r : ℕ = cond b 1 0 in r) w.if-wanted.false in
            omega (arith, more, one, w.count-is, c.loop-page.invariant.count))
      ];
      few = elim c.if-wanted.branch [ then-wanted w ↦ omega arith | else-wanted w ↦ omega arith ];
    }
