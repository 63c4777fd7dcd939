-- `play`: its contract, `Shows`.
use Rattle.demo_job.proofs.run.play.Goals as goal

pub returns : goal.returns
returns c = c.resume.ensures c.args.bench c.requires.fresh c.in_ok-lost.ensures
