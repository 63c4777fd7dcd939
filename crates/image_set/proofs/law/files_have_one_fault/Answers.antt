-- `files_have_one_fault`: the law.
use Rattle.image_set.proofs.FileLemmas.{one_fault}
use Rattle.image_set.proofs.law.files_have_one_fault.Goals as goal

pub returns : goal.returns
returns c = one_fault
