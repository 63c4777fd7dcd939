-- `find_from`: what holds at each turn of its loop.
use Rattle.std.proofs.Common.{◌≡◌, None}
use Rattle.elf32.specs.Search.{first_below}
use Rattle.elf32.specs.Tables.{is_section}
use Rattle.elf32.proofs.names.find_from.Given as goal

abbrev pub invariant-loop-index : goal.invariant-loop-index
invariant-loop-index l = first_below (is_section l.bytes l.name l.kind) l.index ≡ None
