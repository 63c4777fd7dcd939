-- `files_have_one_image`: the law.
use Rattle.image_set.proofs.FileLemmas.{one_image}
use Rattle.image_set.proofs.law.files_have_one_image.Goals as goal

pub returns : goal.returns
returns c = one_image
