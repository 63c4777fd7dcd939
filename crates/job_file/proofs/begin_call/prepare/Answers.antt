-- `prepare`: its clauses `free` and `first`.
use Rattle.std.proofs.Common.{arith}
use Rattle.std.proofs.lemmas.Grind.{common_steps}
use Rattle.std.proofs.lemmas.Bool.{false≢true}
use Rattle.std.proofs.lemmas.Result.{err_from_is_err_and}
use Rattle.job_file.proofs.FirstLemmas.{syncs_as, begin_file_fault}
use Rattle.job_file.proofs.begin_call.prepare.Goals as goal

pub returns-clause-free : goal.returns-clause-free
returns-clause-free g c = grind (arith, common_steps)

pub returns-in_err-class-clause-first : goal.returns-in_err-class-clause-first
returns-in_err-class-clause-first g c =
    let p = err_from_is_err_and c.from_residual.result c.from_residual.ensures.1 in
    rw (p.1, p.2) (syncs_as c.in_err-class.ensures.first (begin_file_fault c.in_err-class.field-0.0))

pub returns-in_err-admit-clause-first : goal.returns-in_err-admit-clause-first
returns-in_err-admit-clause-first g c = syncs_as c.in_ok-class.ensures.first (λ is. absurd (false≢true is))

pub returns-in_err-head_text-clause-first : goal.returns-in_err-head_text-clause-first
returns-in_err-head_text-clause-first g c = syncs_as c.in_ok-class.ensures.first (λ is. absurd (false≢true is))

pub returns-clause-first : goal.returns-clause-first
returns-clause-first g c = syncs_as c.in_ok-class.ensures.first (λ is. absurd (false≢true is))
