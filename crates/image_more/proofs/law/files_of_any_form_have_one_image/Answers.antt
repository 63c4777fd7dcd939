-- `files_of_any_form_have_one_image`: its clauses `image`, `alone` and `fault`.
use Rattle.image_more.proofs.AnyLemmas.{one_any_image, any_memory_alone, one_any_fault}
use Rattle.image_more.proofs.law.files_of_any_form_have_one_image.Goals as goal

pub returns-clause-image : goal.returns-clause-image
returns-clause-image c = one_any_image

pub returns-clause-alone : goal.returns-clause-alone
returns-clause-alone c = any_memory_alone

pub returns-clause-fault : goal.returns-clause-fault
returns-clause-fault c = one_any_fault
