-- `erases_sector`: that it keeps its contract.
use Rattle.std.proofs.Common.{Option, ap, sym, ◌∙◌}
use Rattle.flash_layout.specs.declared.area.SectorCells.{SectorCells}
use Rattle.flash_driver.specs.Erasures.{erases}
use Rattle.flash_driver.proofs.erasures.erases_sector.Goals as goal

pub returns-clause-value : goal.returns-clause-value
returns-clause-value c = ap (λ (s : Option SectorCells). erases c.args.layout.now.erase_ticks s) (sym c.in_ok-sector.was ∙ c.sector_of.ensures.value)
