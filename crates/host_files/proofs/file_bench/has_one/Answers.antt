-- `has_one`: that it keeps its contract.
use Rattle.std.proofs.Common.{arith}
use Rattle.std.proofs.lemmas.Grind.{common_steps}
use Rattle.host_files.proofs.file_bench.has_one.Goals as goal

pub returns-then-has : goal.returns-then-has
returns-then-has c = grind (arith, common_steps)

pub loop-bench-preserved : goal.loop-bench-preserved
loop-bench-preserved c = grind (arith, common_steps)

pub returns : goal.returns
returns c = grind (arith, common_steps)
