-- `end`: that it keeps its contract.
use Rattle.std.proofs.Common.{arith}
use Rattle.std.proofs.lemmas.Grind.{common_steps}
use Rattle.flm_main.proofs.runs.end.Goals as goal

pub returns-in-Err : goal.returns-in-Err
returns-in-Err c = grind (arith, common_steps)
