-- What a tick does, by the number of ticks left.
use Rattle.std.proofs.Common.{◌≡◌, ◌<◌, ◌≤◌, ◌-◌, ℕ, zero, suc, List, refl, ap, arith}
use Rattle.bench_model.specs.Calls.{written}
use Rattle.flash_layout.specs.declared.work.Operation.{Operation}
use Rattle.flash_layout.specs.Work.{work_bytes, tick_at}

pub tick_last : {S : Type 0} (ended : S) (running : Operation → S) (cells : List ℕ) (o : Operation) (left : ℕ) → left ≤ 1
    → tick_at ended running cells o left ≡ (ended, written o.place (work_bytes o.work) cells)
tick_last ended running cells o zero few = refl
tick_last ended running cells o (suc zero) few = refl
tick_last ended running cells o (suc (suc left)) few = absurd (omega (arith, few))

pub tick_more : {S : Type 0} (ended : S) (running : Operation → S) (cells : List ℕ) (o : Operation) (left : ℕ) → 1 < left
    → tick_at ended running cells o left ≡ (running (record o { ticks = left - 1 }), cells)
tick_more ended running cells o zero more = absurd (omega (arith, more))
tick_more ended running cells o (suc zero) more = absurd (omega (arith, more))
tick_more ended running cells o (suc (suc left)) more =
    let less : suc left ≡ suc (suc left) - 1 = omega arith in
    ap (λ n. (running (record o { ticks = n }), cells)) less
