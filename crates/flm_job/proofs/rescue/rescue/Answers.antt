-- `rescue`: its contract, `Rescues`.
use Rattle.command_files.specs.Shown.{answer_of}
use Rattle.flm_job.proofs.rescue.rescue.Goals as goal

pub returns : goal.returns
returns g c = record {
  before = c.new-mended.result;
  after = c.give-given.new.bench;
  over = c.new-mended.ensures.inner;
  hash_is = c.new-mended.ensures.hash;
  answer = answer_of c.give-given.result;
  ends = c.give-given.ensures;
  status_is = c.status_of.ensures;
  warns = c.warn.ensures;
}
