-- `look`: that it keeps its contract.
use Rattle.flash_driver.proofs.TouchLemmas.{count_ok, count_err, reads_access}
use Rattle.flash_driver.proofs.look.look.Goals as goal

pub returns-in-Ok-clause-cause : goal.returns-in-Ok-clause-cause
returns-in-Ok-clause-cause g c = count_ok _ _ _ c.in-Ok.ensures.does.cause

pub returns-in-Err-clause-cause : goal.returns-in-Err-clause-cause
returns-in-Err-clause-cause g c = count_err _ _ _ c.in-Err.ensures.does.cause

pub returns-in-Ok-clause-bench : goal.returns-in-Ok-clause-bench
returns-in-Ok-clause-bench g c = reads_access _ _ _ _ _ _ _ (λ x told. g.met.B.Bench.as_told c.args.bench.now x told) c.in-Ok.ensures.does

pub returns-in-Err-clause-bench : goal.returns-in-Err-clause-bench
returns-in-Err-clause-bench g c = reads_access _ _ _ _ _ _ _ (λ x told. g.met.B.Bench.as_told c.args.bench.now x told) c.in-Err.ensures.does
