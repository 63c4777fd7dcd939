-- `symbol_among`: what holds at each turn of its loop.
use Rattle.std.proofs.Common.{◌≡◌, ◌+◌, ◌*◌, None}
use Rattle.elf32.specs.Search.{first_below}
use Rattle.elf32.specs.Tables.{ends_search}
use Rattle.elf32.proofs.symbols.symbol_among.Given as goal

abbrev pub invariant-loop-index : goal.invariant-loop-index
invariant-loop-index l = first_below (λ k. ends_search l.bytes l.strings l.name (l.table.offset + 16 * k)) l.index ≡ None
