-- `read_algorithm`: its clauses `gives` and `fits`.
use Rattle.std.proofs.Common.{ℕ, List, Result, drop, sym, subst}
use Rattle.faults.specs.Results.{◌>>=◌}
use Rattle.flm_descriptor.specs.Shown as flm
use Rattle.flm_descriptor.specs.Flm.{flm_of}
use Rattle.job_text.specs.Reading.{text_at, read_or}
use Rattle.job_file.specs.Readers.{Gives}
use Rattle.job_file.proofs.StepLemmas.{bind_err}
use Rattle.job_file.proofs.TextsLemmas.{fails_within}
use Rattle.job_file.proofs.CountLemmas.{none_more}
use Rattle.job_file.proofs.texts.read_algorithm.Goals as goal

pub returns-in-Ok-clause-gives : goal.returns-in-Ok-clause-gives
returns-in-Ok-clause-gives g c = λ told.
    subst (λ (r : Result (List ℕ × List ℕ) ℕ). Gives flm.shown c.algorithm_of.result (r >>= λ f. read_or c.args.at (flm_of f.0)))
    (sym (c.in-Ok.ensures.gives told)) c.algorithm_of.ensures.gives

pub returns-in-Ok-clause-fits : goal.returns-in-Ok-clause-fits
returns-in-Ok-clause-fits g c = λ ok. c.in-Ok.ensures.fits Rattle.std.proofs.Common.refl

pub returns-in-Err-clause-gives : goal.returns-in-Err-clause-gives
returns-in-Err-clause-gives g c = λ told.
    let text = text_at c.args.whole c.args.len (drop c.args.at (g.B.Bench.state c.args.bench.now).file) in
    fails_within c.in-Err.fault text (text >>= λ f. read_or c.args.at (flm_of f.0)) (λ at is. bind_err text (λ f. read_or c.args.at (flm_of f.0)) at is)
    (c.in-Err.ensures.gives told)

pub returns-in-Ok-clause-counted : goal.returns-in-Ok-clause-counted
returns-in-Ok-clause-counted g c = none_more _ _ _ c.algorithm_of.ensures.no_store c.in-Ok.ensures.counted
