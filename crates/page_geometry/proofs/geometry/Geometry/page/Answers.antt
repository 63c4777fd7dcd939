-- `page`: what `page_range` requires.
use Rattle.std.proofs.Common.{arith}
use Rattle.std.proofs.lemmas.Grind.{common_steps}
use Rattle.page_geometry.proofs.geometry.Geometry.page.Goals as goal

pub page_range-requires-clause-index : goal.page_range-requires-clause-index
page_range-requires-clause-index c = grind (arith, common_steps)
