-- `map_of_cells`: what falls with each turn of each of its loops.
use Rattle.device_dump.proofs.CellLemmas.{IsMapSoFar}
use Rattle.device_dump.proofs.cells.map_of_cells.Given as given

abbrev pub invariant-loop-region : given.invariant-loop-region
invariant-loop-region l = IsMapSoFar l.regions l.cells l.region-index l.place l.map
