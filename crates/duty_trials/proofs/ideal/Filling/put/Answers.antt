-- `Filling::put`: that its loop keeps its invariant.
use Rattle.std.proofs.Common.{◌≡◌, ◌+◌, ℕ, set, subst, arith}
use Rattle.duty_trials.specs.Ended.{OnlyBetween}
use Rattle.duty_trials.proofs.IdealLemmas.{only_none, only_more}
use Rattle.duty_trials.proofs.ideal.Filling.put.Goals as goal

pub loop-place-init : goal.loop-place-init
loop-place-init c =
    let e : c.args.from ≡ c.args.from + 0 = omega arith in
    subst (λ (n : ℕ). OnlyBetween c.args.from n c.args.cells.now c.args.cells.now) e (only_none c.args.from c.args.cells.now)

pub loop-place-preserved : goal.loop-place-preserved
loop-place-preserved c =
    let k : ℕ = c.args.from + c.loop-place.place in
    let e : k + 1 ≡ c.args.from + (c.loop-place.place + 1) = omega arith in
    subst (λ (n : ℕ). OnlyBetween c.args.from n c.args.cells.now (set c.loop-place.cells k c.byte_at.result)) e
    (only_more c.args.from k c.byte_at.result c.args.cells.now c.loop-place.cells (omega arith) c.loop-place.invariant)
