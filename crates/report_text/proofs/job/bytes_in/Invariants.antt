-- `bytes_in`: what holds at each turn of its loop.
use Rattle.std.specs.Prelude.{◌≡◌, take}
use Rattle.report_text.specs.Job.{bytes_in}
use Rattle.report_text.proofs.job.bytes_in.Given as goal

abbrev pub invariant-loop-index : goal.invariant-loop-index
invariant-loop-index l = l.count ≡ bytes_in (take l.index l.image)
