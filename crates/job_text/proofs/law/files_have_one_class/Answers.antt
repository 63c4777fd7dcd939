-- `files_have_one_class`: its contract, `HasOneClass`.
use Rattle.job_text.proofs.OneClassLemmas.{one_class}
use Rattle.job_text.proofs.law.files_have_one_class.Goals as goal

pub returns : goal.returns
returns c = one_class
