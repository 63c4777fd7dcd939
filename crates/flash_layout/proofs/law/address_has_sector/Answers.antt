-- `address_has_sector`: its contract, `HasSectorCells`.
use Rattle.flash_layout.proofs.SectorLemmas.{has_sector_cells}
use Rattle.flash_layout.proofs.law.address_has_sector.Goals as goal

pub returns : goal.returns
returns c = λ found same. has_sector_cells c.args.layout.now.areas.items c.args.layout.now.runs.items c.args.at found c.args.layout.now.areas_fit
    c.args.layout.now.runs_fit c.args.layout.now.whole same
