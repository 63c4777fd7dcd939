-- `check_counts`: its contract, `Counts`.
use Rattle.job_file.proofs.JobLemmas.{cells_differ, no_runs}
use Rattle.job_file.proofs.class.check_counts.Goals as goal

pub returns-then-cells-size : goal.returns-then-cells-size
returns-then-cells-size c = cells_differ c.args.places.now c.args.head.now c.args.size c.if-cells-size.true

pub returns-then-runs-eq0 : goal.returns-then-runs-eq0
returns-then-runs-eq0 c = no_runs c.args.places.now c.args.head.now c.args.size c.if-cells-size.false c.if-runs-eq0.true
