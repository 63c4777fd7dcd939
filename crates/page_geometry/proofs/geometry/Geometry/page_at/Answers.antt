-- `page_at`: that it keeps its contract, and what `page_number` requires.
use Rattle.std.proofs.Common.{arith}
use Rattle.std.proofs.lemmas.Grind.{common_steps}
use Rattle.page_geometry.proofs.geometry.Geometry.page_at.Goals as goal

pub returns : goal.returns
returns c = grind (arith, common_steps)

pub page_number-requires-clause-runs : goal.page_number-requires-clause-runs
page_number-requires-clause-runs c = grind (arith, common_steps)

pub page_number-requires-clause-few : goal.page_number-requires-clause-few
page_number-requires-clause-few c = grind (arith, common_steps)

pub page_number-requires-clause-table : goal.page_number-requires-clause-table
page_number-requires-clause-table c = grind (arith, common_steps)
