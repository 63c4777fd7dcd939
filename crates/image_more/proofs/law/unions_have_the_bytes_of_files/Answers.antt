-- `unions_have_the_bytes_of_files`: its clauses `from` and `to`.
use Rattle.image_more.proofs.FilesLemmas.{union_from, union_to}
use Rattle.image_more.proofs.law.unions_have_the_bytes_of_files.Goals as goal

pub returns-clause-from : goal.returns-clause-from
returns-clause-from c = union_from

pub returns-clause-to : goal.returns-clause-to
returns-clause-to c = union_to
