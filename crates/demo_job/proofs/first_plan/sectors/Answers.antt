-- `sectors`: that its loop keeps its invariant.
use Rattle.std.proofs.Common.{ℕ, false, get_or, arith, sym, ap, ◌∙◌, cond, Bool, refl}
use Rattle.erase_planner.proofs.FillLemmas.{count_more, count_start}
use Rattle.demo_job.proofs.first_plan.sectors.Goals as goal
use Rattle.demo_job.proofs.first_plan.sectors.Goals.{then-sector_in, else-sector_in}

pub loop-index-init : goal.loop-index-init
loop-index-init c = record { count = count_start (λ (k : ℕ). get_or c.args.plan.now.made.sectors k false); few = omega arith }

pub loop-index-preserved : goal.loop-index-preserved
loop-index-preserved c =
    let n : ℕ = c.loop-index.index in
    let member : ℕ → Bool = λ k. get_or c.args.plan.now.made.sectors k false in
    let more = count_more n member (member n) refl in
    record {
      count = elim c.if-sector_in.branch [
        | then-sector_in w ↦ (let one = ap (λ (b : Bool). let r : ℕ = cond b 1 0 in r) (sym c.sector_in.ensures ∙ w.if-sector_in.true) in
            omega (arith, more, one, w.count-is, c.loop-index.invariant.count))
        | else-sector_in w ↦ (let one = ap (λ (b : Bool). let r : ℕ = cond b 1 0 in r) (sym c.sector_in.ensures ∙ w.if-sector_in.false) in
            omega (arith, more, one, w.count-is, c.loop-index.invariant.count))
      ];
      few = elim c.if-sector_in.branch [ then-sector_in w ↦ omega arith | else-sector_in w ↦ omega arith ];
    }
