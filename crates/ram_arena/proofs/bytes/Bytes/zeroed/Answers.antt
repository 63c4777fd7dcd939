-- `Bytes::zeroed`: that it keeps its contract, that its loop keeps its invariant, what `store8` requires, and that its result meets the clauses of its type.
use Rattle.std.proofs.Common.{◌≡◌, ◌-◌, ℕ, List, Option, Some, length, set, sym, ap, subst, ◌∙◌, arith}
use Rattle.ram_arena.specs.Slots.{somes, IsFull}
use Rattle.ram_arena.proofs.Slots.{zeros_to, zeros_on, zeros_length, zeros_somes, zeros_full, zeros_end}
use Rattle.ram_arena.proofs.bytes.Bytes.zeroed.Goals as goal

pub loop-at-init : goal.loop-at-init
loop-at-init c =
    let made = c.in_ok-base.ensures in
    let none : c.args.size ≡ c.args.size - 0 = omega arith in
    (sym made.0, made.1 ∙ ap (λ (n : ℕ). zeros_to 0 n) none, omega arith, made.2, made.3, made.4)

pub store8-requires : goal.store8-requires
store8-requires c =
    let so_far = c.loop-at.invariant in (
      so_far.0,
      omega (arith, ap (λ (l : List (Option ℕ)). length l) so_far.1, zeros_length c.loop-at.at (c.args.size - c.loop-at.at), c.loop-at-test.true),
      omega arith,
    )

pub loop-at-preserved : goal.loop-at-preserved
loop-at-preserved c =
    let so_far = c.loop-at.invariant in
    let kept = c.store8.ensures in (
      so_far.0 ∙ sym kept.0,
      kept.1 ∙ ap (λ (l : List (Option ℕ)). set l c.loop-at.at (Some 0)) so_far.1 ∙ zeros_on c.loop-at.at c.args.size c.loop-at-test.true,
      omega (arith, c.loop-at-test.true),
      so_far.3,
      so_far.4,
      so_far.5,
    )

pub invariant_of-result : goal.invariant_of-result
invariant_of-result c =
    let so_far = c.loop-at.invariant in
    let all = zeros_end c.loop-at.at c.args.size c.loop-at.cells.slots (omega (arith, c.loop-at-test.false, c.loop-at.auto.at-end)) so_far.1 in (
      so_far.0,
      ap (λ (l : List (Option ℕ)). length l) all ∙ zeros_length c.args.size 0 ∙ omega arith,
      subst IsFull (sym all) (zeros_full c.args.size),
      so_far.3,
      so_far.4,
      so_far.5,
    )

pub returns : goal.returns
returns c =
    let all = zeros_end c.loop-at.at c.args.size c.loop-at.cells.slots (omega (arith, c.loop-at-test.false, c.loop-at.auto.at-end)) c.loop-at.invariant.1 in
    ap somes all ∙ zeros_somes c.args.size
