-- `read_elf`: what holds at each turn of its loop.
use Rattle.std.proofs.Common.{◌≡◌, ◌+◌}
use Rattle.image_set.specs.Segments.{size_before, IsImageBefore}
use Rattle.image_set.proofs.segments.read_elf.Given as goal

abbrev pub invariant-loop-index : goal.invariant-loop-index
invariant-loop-index l = IsImageBefore l.bytes l.index l.map × (l.room + size_before l.bytes l.index ≡ 67108864)
