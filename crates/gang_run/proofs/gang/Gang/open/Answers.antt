-- `Gang::open`: its contract, that its loop keeps its invariant, that an index fits, and what `new` requires.
use Rattle.std.proofs.lemmas.Grind.{common_steps}
use Rattle.std.proofs.Common.{◌≤◌, ◌^◌, ◌∙◌, ℕ, List, get_or, sym, ap, subst, arith}
use Rattle.std.proofs.lemmas.Result.{err_from_is_err_and}
use Rattle.ram_arena.specs.Windows.{total, blank}
use Rattle.gang_run.proofs.OpeningLemmas.{opening_first, opening_on, looked_last, sizes_fit, all_opened, all_ready, is_gang}
use Rattle.gang_run.proofs.OpeningLemmas.{all_synced, synced_so_far, synced_last}
use Rattle.gang_run.proofs.gang.Gang.open.Goals as goal

pub loop-index-init : goal.loop-index-init
loop-index-init g c = rw (c.new-slots.ensures.items, c.new-sizes.ensures.items) (opening_first g.B.Bench c.args.benches.now)

pub loop-index-preserved : goal.loop-index-preserved
loop-index-preserved g c =
    opening_on g.B.Bench c.args.benches.now c.loop-index.benches c.loop-index.slots.items c.loop-index.sizes.items c.loop-index.index
    (get_or c.loop-index.benches c.loop-index.index c.index-benches-index.result) c.add_slot.new.bench c.add_slot.new.slots.items c.add_slot.new.sizes.items
    c.loop-index.invariant (omega (arith, c.loop-index.invariant.count, c.loop-index-test.true))
    (ap (λ x. get_or c.loop-index.benches c.loop-index.index x) c.index-benches-index.is) c.in-Ok.ensures.added c.add_slot.ensures.looked
    c.in-Ok.ensures.first

pub returns-in-Err-clause-looked : goal.returns-in-Err-clause-looked
returns-in-Err-clause-looked g c = λ i d less.
    looked_last g.B.Bench c.args.benches.now c.loop-index.benches c.loop-index.slots.items c.loop-index.sizes.items c.loop-index.index
    (get_or c.loop-index.benches c.loop-index.index c.index-benches-index.result) c.add_slot.new.bench
    c.loop-index.invariant (omega (arith, c.loop-index.invariant.count, c.loop-index-test.true))
    (ap (λ x. get_or c.loop-index.benches c.loop-index.index x) c.index-benches-index.is) c.add_slot.ensures.looked i d

pub new-requires-clause-bytes : goal.new-requires-clause-bytes
new-requires-clause-bytes g c = subst (λ (l : List ℕ). total l ≤ 2 ^ 30) (sym c.deref.ensures.value)
    (sizes_fit c.loop-index.sizes.items c.loop-index.index c.loop-index.invariant.small c.loop-index.invariant.few
    (omega (arith, c.loop-index.invariant.within, c.requires.few))).1

pub returns-clause-opened : goal.returns-clause-opened
returns-clause-opened g c = all_opened g.B.Bench c.args.benches.now c.loop-index.benches (record { arena = c.in_ok-arena.arena; slots = c.loop-index.slots })
    c.loop-index.sizes.items c.loop-index.index c.loop-index.invariant (omega (arith, c.loop-index.invariant.count, c.loop-index-test.false))
    (c.in_ok-arena.ensures ∙ ap (λ (l : List ℕ). blank l) c.deref.ensures.value)

pub returns-clause-first : goal.returns-clause-first
returns-clause-first g c =
    all_synced g.B.Bench c.args.benches.now c.loop-index.benches (record { arena = c.in_ok-arena.arena; slots = c.loop-index.slots })
    c.loop-index.sizes.items c.loop-index.index c.loop-index.invariant (omega (arith, c.loop-index.invariant.count, c.loop-index-test.false))

pub returns-in_err-arena-clause-first : goal.returns-in_err-arena-clause-first
returns-in_err-arena-clause-first g c =
    let p = err_from_is_err_and c.from_residual.result c.from_residual.ensures.1 in
    rw p.1 (λ i d less. synced_so_far g.B.Bench c.args.benches.now c.loop-index.benches c.loop-index.slots.items c.loop-index.sizes.items c.loop-index.index
    c.loop-index.invariant i d)

pub returns-in-Err-clause-first : goal.returns-in-Err-clause-first
returns-in-Err-clause-first g c = λ i d less.
    synced_last g.B.Bench c.args.benches.now c.loop-index.benches c.loop-index.slots.items c.loop-index.sizes.items c.loop-index.index
    (get_or c.loop-index.benches c.loop-index.index c.index-benches-index.result) c.add_slot.new.bench
    c.loop-index.invariant (omega (arith, c.loop-index.invariant.count, c.loop-index-test.true))
    (ap (λ x. get_or c.loop-index.benches c.loop-index.index x) c.index-benches-index.is) c.add_slot.ensures.first i d

pub returns-clause-gang : goal.returns-clause-gang
returns-clause-gang g c = is_gang g.B.Bench c.args.benches.now c.loop-index.benches (record { arena = c.in_ok-arena.arena; slots = c.loop-index.slots })
    c.loop-index.sizes.items c.loop-index.index c.loop-index.invariant (omega (arith, c.loop-index.invariant.count, c.loop-index-test.false))
    (c.in_ok-arena.ensures ∙ ap (λ (l : List ℕ). blank l) c.deref.ensures.value) c.loop-index.invariant.within

pub returns-clause-ready : goal.returns-clause-ready
returns-clause-ready g c = all_ready g.B.Bench c.args.benches.now c.loop-index.benches (record { arena = c.in_ok-arena.arena; slots = c.loop-index.slots })
    c.loop-index.sizes.items c.loop-index.index c.loop-index.invariant (omega (arith, c.loop-index.invariant.count, c.loop-index-test.false))
    (c.in_ok-arena.ensures ∙ ap (λ (l : List ℕ). blank l) c.deref.ensures.value)

pub offset_bounds-benches-index : goal.offset_bounds-benches-index
offset_bounds-benches-index g c = grind (arith, common_steps)

pub returns-in-Err-clause-benches : goal.returns-in-Err-clause-benches
returns-in-Err-clause-benches g c = grind (arith, common_steps)

pub returns-clause-benches : goal.returns-clause-benches
returns-clause-benches g c = grind (arith, common_steps)

pub returns-clause-count : goal.returns-clause-count
returns-clause-count g c = grind (arith, common_steps)
