-- `open`: that it keeps its contract.
use Rattle.std.proofs.Common.{arith}
use Rattle.std.proofs.lemmas.Grind.{common_steps}
use Rattle.std.proofs.lemmas.Bool.{false≢true}
use Rattle.std.proofs.lemmas.Result.{err_from_is_err_and}
use Rattle.job_file.proofs.FirstLemmas.{syncs_as, open_file_fault}
use Rattle.job_file.proofs.open_call.open.Goals as goal

pub returns-clause-counted : goal.returns-clause-counted
returns-clause-counted g c = grind (arith, common_steps)

pub returns-clause-only : goal.returns-clause-only
returns-clause-only g c = grind (arith, common_steps)

pub returns-clause-sized : goal.returns-clause-sized
returns-clause-sized g c = grind (arith, common_steps)

pub returns-clause-refused : goal.returns-clause-refused
returns-clause-refused g c = grind (arith, common_steps)

pub returns-clause-sound : goal.returns-clause-sound
returns-clause-sound g c = grind (arith, common_steps)

pub returns-clause-ok : goal.returns-clause-ok
returns-clause-ok g c = grind (arith, common_steps)

pub returns-in_err-class-clause-first : goal.returns-in_err-class-clause-first
returns-in_err-class-clause-first g c =
    let p = err_from_is_err_and c.from_residual.result c.from_residual.ensures.1 in
    rw (p.1, p.2) (syncs_as c.in_err-class.ensures.first (open_file_fault c.in_err-class.field-0.0))

pub returns-clause-first : goal.returns-clause-first
returns-clause-first g c = syncs_as c.in_ok-class.ensures.first (λ is. absurd (false≢true is))
