-- `is_same`: that it keeps its contract.
use Rattle.demo_job.proofs.ShowLemmas.{bytes_same}
use Rattle.demo_job.proofs.run.is_same.Goals as goal

pub returns : goal.returns
returns c = bytes_same c.args.cells.now c.args.goal.now c.eq.result c.eq.ensures
