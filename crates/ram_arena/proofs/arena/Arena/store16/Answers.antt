-- `Arena::store16`: that it keeps its contract, what `index` and `store16` require, and that no number overflows.
use Rattle.std.proofs.Common.{arith}
use Rattle.ram_arena.proofs.Windows.{is_there, ends, from, store16_is}
use Rattle.ram_arena.proofs.arena.Arena.store16.Goals as goal

pub index-requires : goal.index-requires
index-requires c = omega (
  arith,
  c.self.inside.windows.ok.0,
  is_there c.self.inside.windows.items c.self.inside.bytes c.args.self.now c.self.view_is c.self.invariant.0 c.self.invariant.1 c.args.window
      c.requires.window,
)

pub overflow_add-at : goal.overflow_add-at
overflow_add-at c = record {
  fits = omega (
    arith,
    ends c.self.inside.windows.items c.self.inside.bytes c.args.self.now c.self.view_is c.self.invariant.0
        c.self.invariant.1 c.args.window c.requires.window,
    from c.self.inside.windows.items c.self.inside.bytes c.args.self.now c.self.view_is c.self.invariant.0
        c.self.invariant.1 c.args.window c.requires.window c.index.result.now c.index.ensures,
    c.self.invariant.2,
    c.requires.range,
  );
}

pub store16-requires-clause-place : goal.store16-requires-clause-place
store16-requires-clause-place c = omega (
  arith,
  ends c.self.inside.windows.items c.self.inside.bytes c.args.self.now c.self.view_is c.self.invariant.0
      c.self.invariant.1 c.args.window c.requires.window,
  from c.self.inside.windows.items c.self.inside.bytes c.args.self.now c.self.view_is c.self.invariant.0
      c.self.invariant.1 c.args.window c.requires.window c.index.result.now c.index.ensures,
  c.requires.range,
)

pub returns : goal.returns
returns c = store16_is c.self.inside.windows.items c.self.inside.bytes c.args.self.now c.self.view_is c.self.invariant.0 c.self.invariant.1 c.args.window
    c.requires.window c.index.result.now c.index.ensures c.args.offset c.args.value c.store16.new.self c.store16.ensures (c.requires.range)
