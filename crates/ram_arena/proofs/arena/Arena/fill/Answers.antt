-- `Arena::fill`: that it keeps its contract, that its loop keeps its invariant, and what `index` and `store8` require.
use Rattle.std.proofs.lemmas.Grind.{common_steps}
use Rattle.std.proofs.Common.{◌≡◌, ℕ, List, [], length, get_or, set, sym, ap, ◌∙◌, arith}
use Rattle.ram_arena.proofs.Windows.{is_there, ends, size}
use Rattle.ram_arena.proofs.Loops.{filled, fill_on, fill_done, fill_room, nothing_yet}
use Rattle.ram_arena.proofs.arena.Arena.fill.Goals as goal

pub index-requires : goal.index-requires
index-requires c = omega (
  arith,
  c.self.inside.windows.ok.0,
  is_there c.self.inside.windows.items c.self.inside.bytes c.args.self.now c.self.view_is c.self.invariant.0 c.self.invariant.1 c.args.window c.requires,
)

pub loop-offset-init : goal.loop-offset-init
loop-offset-init c =
    let long = size c.self.inside.windows.items c.self.inside.bytes c.args.self.now c.self.view_is c.self.invariant.0 c.self.invariant.1 c.args.window
    c.requires c.index.result.now c.index.ensures in (
      sym (nothing_yet c.args.self.now c.args.window),
      long,
      omega (
        arith,
        long,
        ends c.self.inside.windows.items c.self.inside.bytes c.args.self.now c.self.view_is c.self.invariant.0 c.self.invariant.1 c.args.window c.requires,
        c.self.invariant.2,
      ),
      c.requires,
    )

pub store8-requires-clause-range : goal.store8-requires-clause-range
store8-requires-clause-range c =
    let so_far = c.loop-offset.invariant in
    omega (
      arith,
      so_far.1,
      c.loop-offset-test.true,
      fill_room c.args.self.now c.loop-offset.self c.args.window c.loop-offset.offset c.args.value so_far.0
          so_far.3,
    )

pub loop-offset-preserved : goal.loop-offset-preserved
loop-offset-preserved c =
    let so_far = c.loop-offset.invariant in (
      c.store8.ensures
          ∙ ap (λ (x : ℕ). set c.loop-offset.self c.args.window (set (get_or c.loop-offset.self c.args.window []) c.loop-offset.offset x)) c.from.ensures
          ∙ ap (λ (l : List (List ℕ)). set l c.args.window (set (get_or l c.args.window []) c.loop-offset.offset c.args.value)) so_far.0
          ∙ fill_on c.args.self.now c.args.window c.loop-offset.offset c.args.value (get_or c.args.self.now c.args.window []) so_far.3,
      so_far.1,
      so_far.2,
      so_far.3,
    )

pub returns : goal.returns
returns c =
    let so_far = c.loop-offset.invariant in
    let w : List ℕ = get_or c.args.self.now c.args.window [] in
    let all : c.loop-offset.offset ≡ length w = omega (arith, so_far.1, c.loop-offset-test.false, c.loop-offset.auto.offset-end) in
    so_far.0 ∙ ap (λ (k : ℕ). set c.args.self.now c.args.window (filled k c.args.value w)) all ∙
    ap (λ (l : List ℕ). set c.args.self.now c.args.window l) (fill_done c.args.value w)

pub store8-requires-clause-window : goal.store8-requires-clause-window
store8-requires-clause-window c = grind (arith, common_steps)
