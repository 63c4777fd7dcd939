-- `count_items`: what holds at each turn of its loop.
use Rattle.std.proofs.Common.{◌≡◌, None}
use Rattle.elf32.specs.Search.{first_below}
use Rattle.flm_descriptor.specs.Described.{is_end}
use Rattle.flm_descriptor.proofs.read.count_items.Given as goal

abbrev pub invariant-loop-index : goal.invariant-loop-index
invariant-loop-index l = first_below (is_end l.bytes l.at) l.index ≡ None
