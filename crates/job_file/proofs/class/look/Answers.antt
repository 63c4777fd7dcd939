-- `look`: its clause `first`.
use Rattle.std.proofs.Common.{refl, arith}
use Rattle.std.proofs.lemmas.Grind.{common_steps}
use Rattle.std.proofs.lemmas.Result.{err_from_is_err_and}
use Rattle.bench_model.proofs.Moments.{goes_then}
use Rattle.job_file.proofs.FirstLemmas.{syncs_alone, syncs_on}
use Rattle.job_file.proofs.class.look.Goals as goal

pub returns-in_err-file_sync-clause-first : goal.returns-in_err-file_sync-clause-first
returns-in_err-file_sync-clause-first g c =
    let p = err_from_is_err_and c.from_residual.result c.from_residual.ensures.1 in
    rw (p.1, p.2) (syncs_alone c.in_err-file_sync.ensures.acts c.in_err-file_sync.ensures.does refl)

pub returns-in_err-whole-clause-first : goal.returns-in_err-whole-clause-first
returns-in_err-whole-clause-first g c = syncs_on c.file_sync.new.self c.in_ok-file_sync.ensures.acts c.in_ok-file_sync.ensures.does
    (λ told. c.file_len.ensures.does.moments.goes_on)

pub returns-clause-first : goal.returns-clause-first
returns-clause-first g c = syncs_on c.file_sync.new.self c.in_ok-file_sync.ensures.acts c.in_ok-file_sync.ensures.does
    (λ told. goes_then c.file_len.ensures.does.moments.goes_on c.read_class.ensures.reads.moments.goes_on)

pub returns-clause-only : goal.returns-clause-only
returns-clause-only g c = grind (arith, common_steps)

pub returns-clause-class : goal.returns-clause-class
returns-clause-class g c = grind (arith, common_steps)

pub read_class-requires : goal.read_class-requires
read_class-requires g c = grind (arith, common_steps)

pub returns-clause-counted : goal.returns-clause-counted
returns-clause-counted g c = grind (arith, common_steps)

pub returns-clause-reads : goal.returns-clause-reads
returns-clause-reads g c = grind (arith, common_steps)
