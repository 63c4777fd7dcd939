-- `each_cell_is_laid`: its clauses `cells` and `size`.
use Rattle.flash_session.proofs.JobLemmas.{overlaid_length}
use Rattle.promise.proofs.CellLemmas.{laid_at}
use Rattle.promise.proofs.law.each_cell_is_laid.Goals as goal

pub returns-clause-cells : goal.returns-clause-cells
returns-clause-cells c = laid_at

pub returns-clause-size : goal.returns-clause-size
returns-clause-size c = overlaid_length
