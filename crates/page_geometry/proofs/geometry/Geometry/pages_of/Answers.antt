-- `pages_of`: that it keeps its contract, and what `sector_pages` requires.
use Rattle.std.proofs.Common.{arith}
use Rattle.std.proofs.lemmas.Grind.{common_steps}
use Rattle.page_geometry.proofs.geometry.Geometry.pages_of.Goals as goal

pub sector_pages-requires-clause-good : goal.sector_pages-requires-clause-good
sector_pages-requires-clause-good c = grind (arith, common_steps)

pub sector_pages-requires-clause-sector : goal.sector_pages-requires-clause-sector
sector_pages-requires-clause-sector c = grind (arith, common_steps)

pub sector_pages-requires-clause-pages : goal.sector_pages-requires-clause-pages
sector_pages-requires-clause-pages c = grind (arith, common_steps)

pub returns : goal.returns
returns c = grind (arith, common_steps)

pub sector_pages-requires-clause-sectors : goal.sector_pages-requires-clause-sectors
sector_pages-requires-clause-sectors c = grind (arith, common_steps)
