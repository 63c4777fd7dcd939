-- `sector_at`: that it keeps its contract, and what `sector_number` requires.
use Rattle.std.proofs.Common.{arith}
use Rattle.std.proofs.lemmas.Grind.{common_steps}
use Rattle.page_geometry.proofs.geometry.Geometry.sector_at.Goals as goal

pub sector_number-requires-clause-runs : goal.sector_number-requires-clause-runs
sector_number-requires-clause-runs c = grind (arith, common_steps)

pub sector_number-requires-clause-few : goal.sector_number-requires-clause-few
sector_number-requires-clause-few c = grind (arith, common_steps)

pub returns : goal.returns
returns c = grind (arith, common_steps)

pub sector_number-requires-clause-table : goal.sector_number-requires-clause-table
sector_number-requires-clause-table c = grind (arith, common_steps)
