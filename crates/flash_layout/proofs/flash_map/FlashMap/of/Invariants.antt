-- `FlashMap::of`: what holds at each turn of its loop.
use Rattle.flash_layout.proofs.BoardLemmas.{Taken}
use Rattle.flash_layout.proofs.flash_map.FlashMap.of.Given as goal

abbrev pub invariant-loop-region : goal.invariant-loop-region
invariant-loop-region l = Taken l.board.regions l.region-index l.areas.items l.runs.items
