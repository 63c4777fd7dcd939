-- `FlashMap::cells`: what holds at each turn of its loop.
use Rattle.flash_layout.proofs.FindLemmas.{Counted}
use Rattle.flash_layout.proofs.flash_map.FlashMap.cells.Given as goal

abbrev pub invariant-loop-area : goal.invariant-loop-area
invariant-loop-area l = Counted l.area-items l.area-index l.cells
