-- `Session::survey`: its clauses `ok`, `made`, `err`, `job`, `pairs`, `store` and `device`, and what `survey_for` requires.
use Rattle.std.proofs.Common.{◌∙◌, Option, IsSome, IsSomeAnd, refl, sym, ap, subst, arith}
use Rattle.std.proofs.lemmas.Grind.{common_steps}
use Rattle.std.proofs.lemmas.Result.{err_from_is_err_and}
use Rattle.bench_model.specs.Counted.{is_store_fault, is_device_fault}
use Rattle.board_file.specs.Limits.{size_of}
use Rattle.job_text.specs.Stands.{StandsFor}
use Rattle.job_text.specs.declared.job.Job.{Job}
use Rattle.flash_session.specs.declared.fault.SurveyFault.{SurveyFault}
use Rattle.flash_session.specs.declared.ready.Survey.{Survey}
use Rattle.flash_session.specs.Sessions.{shown_in}
use Rattle.flash_session.specs.Surveys.{HasSurveyed, survey_shown}
use Rattle.flash_session.proofs.FoundLemmas.{refused, handed}
use Rattle.flash_session.proofs.ReadLemmas.{read_pairs}
use Rattle.flash_session.proofs.session.Session.survey.Goals as goal

pub returns-in_err-survey-clause-store : goal.returns-in_err-survey-clause-store
returns-in_err-survey-clause-store g c =
    let p = err_from_is_err_and c.from_residual.result c.from_residual.ensures.1 in
    handed is_store_fault (Unit {0}) _ _ _ c.in_err-survey.field-0.0 (p.1 ∙ ap (λ (e : SurveyFault). refused (Unit {0}) e) p.2) c.in_err-survey.ensures.store

pub returns-in_err-survey-clause-device : goal.returns-in_err-survey-clause-device
returns-in_err-survey-clause-device g c =
    let p = err_from_is_err_and c.from_residual.result c.from_residual.ensures.1 in
    handed is_device_fault (Unit {0}) _ _ _ c.in_err-survey.field-0.0 (p.1 ∙ ap (λ (e : SurveyFault). refused (Unit {0}) e) p.2) c.in_err-survey.ensures.device

pub returns-clause-pairs : goal.returns-clause-pairs
returns-clause-pairs g c = read_pairs c.survey_for.ensures.reads

pub survey_for-requires-clause-count : goal.survey_for-requires-clause-count
survey_for-requires-clause-count g c = c.requires.count ∙ ap (λ (j : Job). size_of j.board.regions) (sym c.keep.ensures.job)

pub survey_for-requires-clause-stands : goal.survey_for-requires-clause-stands
survey_for-requires-clause-stands g c = λ told.
    subst (λ (j : Job). StandsFor j (g.B.Bench.state c.args.bench.now).file) (sym c.keep.ensures.job) (c.requires.stands told)

pub returns-clause-ok : goal.returns-clause-ok
returns-clause-ok g c =
    let s = g.B.Bench.state c.args.bench.now in
    subst (λ (o : Option Survey). IsSomeAnd (shown_in o) (λ w. HasSurveyed g.B.Bench.tells c.args.self.now.job c.args.goal s.file s.cells w))
    (sym c.keep-2.ensures.survey)
    (subst (λ (j : Job). HasSurveyed g.B.Bench.tells j c.args.goal s.file s.cells (survey_shown c.in_ok-survey.survey)) c.keep.ensures.job
    c.in_ok-survey.ensures.found)

pub returns-clause-made : goal.returns-clause-made
returns-clause-made g c = subst (λ (o : Option Survey). IsSome (shown_in o)) (sym c.keep-2.ensures.survey) refl

pub returns-clause-job : goal.returns-clause-job
returns-clause-job g c = c.keep-2.ensures.job ∙ c.keep.ensures.job

pub returns-in_err-survey-clause-err : goal.returns-in_err-survey-clause-err
returns-in_err-survey-clause-err g c =
    let p = err_from_is_err_and c.from_residual.result c.from_residual.ensures.1 in
    rw p.1 (ap shown_in c.keep.ensures.survey)

pub keep-requires : goal.keep-requires
keep-requires g c = grind (arith, common_steps)
