-- `Gathered::len`: that it keeps its contract.
use Rattle.std.proofs.Common.{arith}
use Rattle.std.proofs.lemmas.Grind.{common_steps}
use Rattle.record_lines.proofs.gathered.Gathered.len.Goals as goal

pub returns : goal.returns
returns c = grind (arith, common_steps)
