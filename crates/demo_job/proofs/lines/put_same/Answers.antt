-- `put_same`: that it keeps its contract.
use Rattle.std.proofs.Common.{arith}
use Rattle.std.proofs.lemmas.Grind.{common_steps}
use Rattle.demo_job.specs.Lines.{same_text}
use Rattle.demo_job.proofs.lines.put_same.Goals as goal

pub returns : goal.returns
unfolding same_text
returns g c = grind (arith, common_steps)
