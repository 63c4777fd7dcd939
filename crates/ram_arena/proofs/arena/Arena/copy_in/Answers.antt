-- `Arena::copy_in`: that it keeps its contract, that its loop keeps its invariant, and what `index` and `store8` require.
use Rattle.std.proofs.lemmas.Grind.{common_steps}
use Rattle.std.proofs.Common.{◌≡◌, ◌+◌, ℕ, List, [], length, get_or, set, sym, ap, ◌∙◌, arith}
use Rattle.ram_arena.proofs.Windows.{is_there, ends}
use Rattle.ram_arena.proofs.Loops.{copied, copy_on, copy_done, copy_room, nothing_yet}
use Rattle.ram_arena.proofs.arena.Arena.copy_in.Goals as goal

pub index-requires : goal.index-requires
index-requires c = omega (
  arith,
  c.self.inside.windows.ok.0,
  is_there c.self.inside.windows.items c.self.inside.bytes c.args.self.now c.self.view_is c.self.invariant.0 c.self.invariant.1 c.args.window
      c.requires.window,
)

pub loop-i-init : goal.loop-i-init
loop-i-init c = (
  sym (nothing_yet c.args.self.now c.args.window),
  c.requires.range,
  omega (
    arith,
    c.requires.range,
    ends c.self.inside.windows.items c.self.inside.bytes c.args.self.now c.self.view_is c.self.invariant.0 c.self.invariant.1
        c.args.window c.requires.window,
    c.self.invariant.2,
  ),
  c.requires.window,
)

pub store8-requires-clause-range : goal.store8-requires-clause-range
store8-requires-clause-range c =
    let so_far = c.loop-i.invariant in
    omega (
      arith,
      so_far.1,
      c.loop-i-test.true,
      copy_room c.args.self.now c.loop-i.self c.args.window c.loop-i.i c.args.offset c.args.bytes.now so_far.0
          so_far.3,
    )

pub loop-i-preserved : goal.loop-i-preserved
loop-i-preserved c =
    let so_far = c.loop-i.invariant in (
      c.store8.ensures
          ∙ ap (λ (x : ℕ). set c.loop-i.self c.args.window (set (get_or c.loop-i.self c.args.window []) (c.args.offset + c.loop-i.i) x)) c.from.ensures
          ∙ ap (λ (l : List (List ℕ)). set l c.args.window (set (get_or l c.args.window []) (c.args.offset + c.loop-i.i)
          (get_or c.args.bytes.now c.loop-i.i 0))) so_far.0
          ∙ copy_on c.args.self.now c.args.window c.loop-i.i c.args.offset c.args.bytes.now (get_or c.args.self.now c.args.window []) so_far.3
          c.loop-i-test.true,
      so_far.1,
      so_far.2,
      so_far.3,
    )

pub returns : goal.returns
returns c =
    let so_far = c.loop-i.invariant in
    let w : List ℕ = get_or c.args.self.now c.args.window [] in
    let all : c.loop-i.i ≡ length c.args.bytes.now = omega (arith, c.loop-i-test.false, c.loop-i.auto.i-end) in
    so_far.0 ∙ ap (λ (k : ℕ). set c.args.self.now c.args.window (copied k c.args.offset c.args.bytes.now w)) all
    ∙ ap (λ (l : List ℕ). set c.args.self.now c.args.window l) (copy_done c.args.offset c.args.bytes.now w so_far.1)

pub store8-requires-clause-window : goal.store8-requires-clause-window
store8-requires-clause-window c = grind (arith, common_steps)
