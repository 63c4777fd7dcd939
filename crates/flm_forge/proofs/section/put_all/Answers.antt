-- `put_all`: that its loop keeps its invariant.
use Rattle.std.proofs.Common.{arith}
use Rattle.std.proofs.lemmas.Grind.{common_steps}
use Rattle.flm_forge.proofs.section.put_all.Goals as goal

pub loop-header-preserved : goal.loop-header-preserved
loop-header-preserved c = grind (arith, common_steps)

pub returns : goal.returns
returns c = grind (arith, common_steps)
