-- `sector`: what `sector_range` requires.
use Rattle.std.proofs.Common.{arith}
use Rattle.std.proofs.lemmas.Grind.{common_steps}
use Rattle.page_geometry.proofs.geometry.Geometry.sector.Goals as goal

pub sector_range-requires-clause-index : goal.sector_range-requires-clause-index
sector_range-requires-clause-index c = grind (arith, common_steps)
