-- `Arena::load32_from`: its clause `value`, what `load32` requires, and that no number overflows.
use Rattle.std.proofs.Common.{◌∙◌, arith}
use Rattle.ram_arena.proofs.Windows.{ends, is_from, load32_at}
use Rattle.ram_arena.proofs.arena.Arena.load32_from.Goals as goal

pub overflow_add-from : goal.overflow_add-from
overflow_add-from c = record {
  fits = omega (
    arith,
    ends c.self.inside.windows.items c.self.inside.bytes c.args.self.now c.self.view_is c.self.invariant.0
        c.self.invariant.1 c.args.window c.requires.window,
    is_from c.self.inside.windows.items c.self.inside.bytes c.args.self.now c.self.view_is
        c.self.invariant.0 c.self.invariant.1 c.args.window c.requires.window c.args.from c.requires.from,
    c.self.invariant.2,
    c.requires.range,
  );
}

pub load32-requires : goal.load32-requires
load32-requires c = omega (
  arith,
  ends c.self.inside.windows.items c.self.inside.bytes c.args.self.now c.self.view_is c.self.invariant.0 c.self.invariant.1
      c.args.window c.requires.window,
  is_from c.self.inside.windows.items c.self.inside.bytes c.args.self.now c.self.view_is c.self.invariant.0
      c.self.invariant.1 c.args.window c.requires.window c.args.from c.requires.from,
  c.requires.range,
)

pub returns : goal.returns
returns c = record {
  value = c.load32.ensures ∙ load32_at c.self.inside.windows.items c.self.inside.bytes c.args.self.now c.self.view_is c.self.invariant.0
      c.self.invariant.1 c.args.window c.requires.window c.args.from c.requires.from c.args.offset (c.requires.range);
}
