-- `FlashMap::sector_of`: its clause `inside`.
use Rattle.flash_layout.specs.Areas.{cells_in}
use Rattle.flash_layout.proofs.SectorLemmas.{sector_inside}
use Rattle.flash_layout.proofs.flash_map.FlashMap.sector_of.Goals as goal

pub returns-clause-inside : goal.returns-clause-inside
returns-clause-inside c =
    sector_inside c.args.self.now.runs.items c.in_ok-found.found.place c.in_ok-found.found.area.empty (cells_in c.args.self.now.areas.items) c.sector_in.result
    c.args.self.now.runs_fit c.args.self.now.whole c.in_ok-found.ensures.inside.byte c.sector_in.ensures
