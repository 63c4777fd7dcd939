-- `Arena::load8_from`: its clause `value`, what `load8` requires, and that no number overflows.
use Rattle.std.proofs.Common.{◌∙◌, arith}
use Rattle.ram_arena.proofs.Windows.{ends, is_from, load8_at}
use Rattle.ram_arena.proofs.arena.Arena.load8_from.Goals as goal

pub overflow_add-from : goal.overflow_add-from
overflow_add-from c = record {
  fits = omega (
    arith,
    ends c.self.inside.windows.items c.self.inside.bytes c.args.self.now c.self.view_is c.self.invariant.0
        c.self.invariant.1 c.args.window c.requires.window,
    is_from c.self.inside.windows.items c.self.inside.bytes c.args.self.now c.self.view_is
        c.self.invariant.0 c.self.invariant.1 c.args.window c.requires.window c.args.from c.requires.from,
    c.self.invariant.2,
    c.requires.range,
  );
}

pub load8-requires : goal.load8-requires
load8-requires c = omega (
  arith,
  ends c.self.inside.windows.items c.self.inside.bytes c.args.self.now c.self.view_is c.self.invariant.0 c.self.invariant.1
      c.args.window c.requires.window,
  is_from c.self.inside.windows.items c.self.inside.bytes c.args.self.now c.self.view_is c.self.invariant.0
      c.self.invariant.1 c.args.window c.requires.window c.args.from c.requires.from,
  c.requires.range,
)

pub returns-clause-value : goal.returns-clause-value
returns-clause-value c = c.load8.ensures.value ∙ load8_at c.self.inside.windows.items c.self.inside.bytes c.args.self.now c.self.view_is c.self.invariant.0
    c.self.invariant.1 c.args.window c.requires.window c.args.from c.requires.from c.args.offset (omega (arith, c.requires.range))
