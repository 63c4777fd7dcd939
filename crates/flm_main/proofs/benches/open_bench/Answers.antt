-- `open_bench`: that it keeps its contract.
use Rattle.std.proofs.Common.{arith}
use Rattle.std.proofs.lemmas.Grind.{common_steps}
use Rattle.flm_main.proofs.benches.open_bench.Goals as goal

pub returns-clause-cells : goal.returns-clause-cells
returns-clause-cells c = grind (arith, common_steps)
