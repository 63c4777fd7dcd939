-- `damaged_files_have_no_job`: the law.
use Rattle.job_text.proofs.ClassLemmas.{never_jobs}
use Rattle.job_text.proofs.law.damaged_files_have_no_job.Goals as goal

pub returns : goal.returns
returns c = λ file kept found damaged some. never_jobs file kept found damaged some.job some.board some.algorithms some.is some.whole
