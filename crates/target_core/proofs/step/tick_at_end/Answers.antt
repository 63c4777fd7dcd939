-- `tick_at_end`: that it keeps its contract.
use Rattle.std.proofs.Common.{arith}
use Rattle.std.proofs.lemmas.Grind.{common_steps}
use Rattle.target_core.proofs.step.tick_at_end.Goals as goal

pub returns : goal.returns
returns g c = grind (arith, common_steps)
