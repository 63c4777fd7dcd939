-- `count_items`: its clause `count`, and that its loop keeps its invariant.
use Rattle.std.proofs.Common.{◌≡◌, ◌<◌, ◌∙◌, sym, arith}
use Rattle.elf32.proofs.SearchLemmas.{first_below-zero, first_below-none, first_below-first}
use Rattle.flm_descriptor.specs.Described.{is_end, pairs}
use Rattle.flm_descriptor.proofs.read.count_items.Goals as goal

pub loop-index-init : goal.loop-index-init
loop-index-init c = first_below-zero (is_end c.args.bytes.now c.args.at)

pub returns-then-is_end-clause-count : goal.returns-then-is_end-clause-count
returns-then-is_end-clause-count c =
    let inside : c.loop-index.index < pairs c.args.bytes.now c.args.at = rw c.min-index-end.ensures at c.loop-index-test.true in
    sym (first_below-first (is_end c.args.bytes.now c.args.at) (pairs c.args.bytes.now c.args.at) c.loop-index.index inside c.loop-index.invariant
    (sym c.is_end.ensures ∙ c.if-is_end.true))

pub loop-index-preserved : goal.loop-index-preserved
loop-index-preserved c =
    first_below-none (is_end c.args.bytes.now c.args.at) c.loop-index.index c.loop-index.invariant (sym c.is_end.ensures ∙ c.if-is_end.false)

pub returns-clause-count : goal.returns-clause-count
returns-clause-count c =
    let end : c.loop-index.index ≡ c.min-index-end.result = omega (arith, c.loop-index.auto.index-end) in
    sym (rw (end, c.min-index-end.ensures) at c.loop-index.invariant)
