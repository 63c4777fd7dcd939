-- `jobs_have_fields`: its contract, `HasFields`.
use Rattle.job_text.proofs.OneTextLemmas.{has_fields}
use Rattle.job_text.proofs.law.jobs_have_fields.Goals as goal

pub returns : goal.returns
returns c = has_fields
