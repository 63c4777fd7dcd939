-- `FlashMap::sector_in`: what holds at each turn of its loop.
use Rattle.flash_layout.proofs.SectorLemmas.{Passed}
use Rattle.flash_layout.proofs.flash_map.FlashMap.sector_in.Given as goal

abbrev pub invariant-loop-run : goal.invariant-loop-run
invariant-loop-run l = Passed l.run-items l.place l.run-index l.from
