-- `Arena::new`: that it keeps its contract, that its loop keeps its invariant, what `zeroed` requires, and that no number overflows.
use Rattle.std.proofs.lemmas.Grind.{common_steps}
use Rattle.std.proofs.Common.{◌≡◌, ◌+◌, ℕ, suc, List, [], ◌∷◌, ◌++◌, length, get_or, take, replicate, sym, ap, subst, ◌∙◌, arith, take-suc}
use lib.Seq.{take-length}
use Rattle.ram_arena.specs.Windows.{total, cut, sizes_of, LieFrom}
use Rattle.ram_arena.specs.declared.window.Window.{Window}
use Rattle.ram_arena.proofs.Windows.{blank_is, lie_more, sizes_more, total_next, total_take}
use Rattle.ram_arena.proofs.arena.Arena.new.Goals as goal

pub overflow_add-from : goal.overflow_add-from
overflow_add-from c = record {
  fits = omega (
    arith,
    c.loop-index.invariant.2,
    c.round_up-from.ensures,
    total_next c.args.sizes.now c.loop-index.index c.loop-index-test.true,
    total_take (c.loop-index.index + 1) c.args.sizes.now,
    c.requires.bytes,
  );
}

pub loop-index-preserved : goal.loop-index-preserved
loop-index-preserved c =
    let so_far = c.loop-index.invariant in
    let sizes : List ℕ = c.args.sizes.now in
    let i : ℕ = c.loop-index.index in
    let ws : List Window = c.loop-index.windows.items in
    let n : ℕ = get_or sizes i 0 in
    let w : Window = record { from = c.loop-index.from; size = n } in
    let pushed : c.push.new.self.items ≡ ws ++ w ∷ [] = c.in_ok-push.ensures.items in
    let next : i + 1 ≡ suc i = omega arith in
    let more : take (i + 1) sizes ≡ take i sizes ++ n ∷ [] = ap (λ (k : ℕ). take k sizes) next ∙ take-suc sizes i 0 c.loop-index-test.true in
    let at : c.loop-index.from ≡ 0 + total (sizes_of ws) = so_far.2 ∙ ap total (sym so_far.0) ∙ omega arith in (
      ap sizes_of pushed ∙ sizes_more ws w ∙ ap (λ (l : List ℕ). l ++ n ∷ []) so_far.0 ∙ sym more,
      subst (LieFrom 0) (sym pushed) (lie_more ws 0 w so_far.1 at),
      omega (arith, so_far.2, c.round_up-from.ensures, total_next sizes i c.loop-index-test.true),
    )

pub returns : goal.returns
returns c =
    let so_far = c.loop-index.invariant in
    let sizes : List ℕ = c.args.sizes.now in
    let all : c.loop-index.index ≡ length sizes = omega (arith, c.loop-index-test.false, c.loop-index.auto.index-end) in
    let every : take c.loop-index.index sizes ≡ sizes = ap (λ (k : ℕ). take k sizes) all ∙ take-length sizes in
    let bytes : c.loop-index.from ≡ total sizes = so_far.2 ∙ ap total every in
    ap (λ (ns : List ℕ). cut ns c.in_ok-bytes.bytes) (so_far.0 ∙ every) ∙ ap (cut sizes) (c.in_ok-bytes.ensures ∙ ap (λ (k : ℕ). replicate {A = ℕ} k 0) bytes) ∙
    blank_is sizes

pub invariant_of-result : goal.invariant_of-result
invariant_of-result c = grind (arith, common_steps)

pub zeroed-requires : goal.zeroed-requires
zeroed-requires c = grind (arith, common_steps)

pub loop-index-init : goal.loop-index-init
loop-index-init c = grind (arith, common_steps)
