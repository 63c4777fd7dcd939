-- `symbol_table`: what holds at each turn of its loop.
use Rattle.std.proofs.Common.{◌≡◌, ◌==◌, None}
use Rattle.elf32.specs.Search.{first_below}
use Rattle.elf32.specs.Format.{section_at}
use Rattle.elf32.proofs.symbols.symbol_table.Given as goal

abbrev pub invariant-loop-index : goal.invariant-loop-index
invariant-loop-index l = first_below (λ k. (section_at l.bytes k).kind == 2) l.index ≡ None
