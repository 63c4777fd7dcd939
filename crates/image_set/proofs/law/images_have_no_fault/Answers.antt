-- `images_have_no_fault`: its contract, `OutOfMemory`.
use Rattle.image_set.proofs.FileLemmas.{memory_alone}
use Rattle.image_set.proofs.law.images_have_no_fault.Goals as goal

pub returns : goal.returns
returns c = memory_alone
