-- `uf2_files_have_one_image`: its clauses `image` and `alone`.
use Rattle.image_more.proofs.Uf2Laws.{one_uf2_image, uf2_memory_alone}
use Rattle.image_more.proofs.law.uf2_files_have_one_image.Goals as goal

pub returns-clause-image : goal.returns-clause-image
returns-clause-image c = one_uf2_image

pub returns-clause-alone : goal.returns-clause-alone
returns-clause-alone c = uf2_memory_alone
