-- `fields_tell_one_job`: the law.
use Rattle.job_text.proofs.OneTextLemmas.{one_text}
use Rattle.job_text.proofs.law.fields_tell_one_job.Goals as goal

pub returns : goal.returns
returns c = one_text
