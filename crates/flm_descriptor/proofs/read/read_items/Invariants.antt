-- `read_items`: what holds at each turn of its loop.
use Rattle.std.proofs.Common.{◌≡◌, length}
use Rattle.std.specs.Prelude.{map}
use Rattle.std.specs.List.{range_with_len}
use Rattle.flm_descriptor.specs.Described.{item_at}
use Rattle.flm_descriptor.proofs.read.read_items.Given as goal

abbrev pub invariant-loop-index : goal.invariant-loop-index
invariant-loop-index l = (l.items.items ≡ map (item_at l.bytes l.at) (range_with_len 0 l.index)) × (length l.items.items ≡ l.index)
