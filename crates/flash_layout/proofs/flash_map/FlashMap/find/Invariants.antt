-- `FlashMap::find`: what holds at each turn of its loop.
use Rattle.flash_layout.proofs.FindLemmas.{Looked}
use Rattle.flash_layout.proofs.flash_map.FlashMap.find.Given as goal

abbrev pub invariant-loop-area : goal.invariant-loop-area
invariant-loop-area l = Looked l.area-items l.at l.area-index l.from
