-- `one_run`: that it keeps its contract.
use Rattle.demo_job.proofs.MadeLemmas.{one_piece}
use Rattle.demo_job.proofs.made.one_run.Goals as goal

pub returns-in-Ok : goal.returns-in-Ok
returns-in-Ok c = one_piece (record { at = c.args.at; bytes = c.args.bytes.now }) c.new-image.result c.lay.new.self c.new-image.ensures c.requires.some
    c.in-Ok.ensures.ok
