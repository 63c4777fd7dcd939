-- `check_order`: its clauses `fault` and `rise`, and that its loop keeps its invariant.
use Rattle.std.proofs.Common.{◌≡◌, ◌-◌, ◌≤◌, ◌<◌, ◌+◌, arith, below_more, length, refl}
use Rattle.std.proofs.lemmas.Bool.{lt-leb}
use Rattle.elf32.proofs.SearchLemmas.{first_below-zero, first_below-none}
use Rattle.flm_descriptor.specs.Shape.{offset_at}
use Rattle.flm_descriptor.specs.Limits.{falls}
use Rattle.flm_descriptor.proofs.LimitLemmas.{order_fault-here, order_fault-none}
use Rattle.flm_descriptor.proofs.ItemLemmas.{offset_is}
use Rattle.flm_descriptor.proofs.checks.check_order.Goals as goal

pub loop-index-init : goal.loop-index-init
loop-index-init c = (first_below-zero (falls c.args.items.now), λ k low. absurd (omega (arith, low)))

pub returns-then-items-index-clause-fault : goal.returns-then-items-index-clause-fault
returns-then-items-index-clause-fault c =
    let items = c.args.items.now in
    let k = c.loop-index.index in
    let low : offset_at items (k + 1) ≤ offset_at items k = omega (arith, offset_is items k, offset_is items (k + 1), c.if-items-index.true) in
    rw (order_fault-here items k c.loop-index.invariant.0 c.loop-index-test.true low) refl

pub loop-index-preserved : goal.loop-index-preserved
loop-index-preserved c =
    let items = c.args.items.now in
    let k = c.loop-index.index in
    let high : offset_at items k < offset_at items (k + 1) = omega (arith, offset_is items k, offset_is items (k + 1), c.if-items-index.false) in (
      first_below-none (falls items) k c.loop-index.invariant.0 (lt-leb (offset_at items (k + 1)) (offset_at items k) high),
      below_more _ _ c.loop-index.invariant.1 high,
    )

pub returns-clause-fault : goal.returns-clause-fault
returns-clause-fault c =
    let end : c.loop-index.index ≡ length c.args.items.now - 1 = omega (arith, c.loop-index.auto.index-end) in
    rw (order_fault-none c.args.items.now (rw end at c.loop-index.invariant.0)) refl

pub returns-clause-rise : goal.returns-clause-rise
returns-clause-rise c = λ k inside. c.loop-index.invariant.1 k (omega (arith, inside, c.loop-index-test.false))
