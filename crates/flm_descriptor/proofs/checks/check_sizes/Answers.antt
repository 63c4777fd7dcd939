-- `check_sizes`: its clause `fault`, and that its loop keeps its invariant.
use Rattle.std.proofs.Common.{◌≡◌, ◌≤◌, ◌∙◌, sym, arith, below_more, length, refl}
use Rattle.std.proofs.lemmas.Bool.{ne_eqb}
use Rattle.elf32.proofs.SearchLemmas.{first_below-zero, first_below-none}
use Rattle.flm_descriptor.specs.Shape.{size_at}
use Rattle.flm_descriptor.specs.Limits.{is_void}
use Rattle.flm_descriptor.proofs.LimitLemmas.{size_fault-here, size_fault-none}
use Rattle.flm_descriptor.proofs.ItemLemmas.{size_is}
use Rattle.flm_descriptor.proofs.checks.check_sizes.Goals as goal

pub loop-index-init : goal.loop-index-init
loop-index-init c = (first_below-zero (is_void c.args.items.now), λ k low. absurd (omega (arith, low)))

pub returns-then-items-index-eq0-clause-fault : goal.returns-then-items-index-eq0-clause-fault
returns-then-items-index-eq0-clause-fault c =
    let items = c.args.items.now in
    let k = c.loop-index.index in
    let void : size_at items k ≡ 0 = size_is items k ∙ c.if-items-index-eq0.true in
    rw (size_fault-here items k c.loop-index.invariant.0 c.loop-index-test.true void) refl

pub loop-index-preserved : goal.loop-index-preserved
loop-index-preserved c =
    let items = c.args.items.now in
    let k = c.loop-index.index in
    let some : size_at items k ≡ 0 → ⊥ = λ e. c.if-items-index-eq0.false (sym (size_is items k) ∙ e) in
    let least : 1 ≤ size_at items k = omega (arith, some) in (
      first_below-none (is_void items) k c.loop-index.invariant.0 (ne_eqb (size_at items k) 0 some),
      below_more _ _ c.loop-index.invariant.1 least,
    )

pub returns-clause-fault : goal.returns-clause-fault
returns-clause-fault c =
    let end : c.loop-index.index ≡ length c.args.items.now = omega (arith, c.loop-index.auto.index-end) in
    rw (size_fault-none c.args.items.now (rw end at c.loop-index.invariant.0)) refl
