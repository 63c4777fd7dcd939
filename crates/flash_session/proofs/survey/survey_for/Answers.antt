-- `survey_for`: its clauses `found`, `work`, `store` and `device`.
use Rattle.std.proofs.Common.{◌∙◌, ◌∷◌, map, option_to_list, sym, ap, subst}
use Rattle.bench_model.specs.Counted.{is_store_fault, is_device_fault}
use Rattle.std.proofs.lemmas.Result.{err_from_is_err_and}
use Rattle.job_text.specs.Said.{algorithms_shown}
use Rattle.flash_session.specs.declared.fault.SurveyFault.{SurveyFault}
use Rattle.flash_session.specs.declared.region_plan.SessionWork.{SessionWork}
use Rattle.flash_session.specs.declared.ready.Survey.{Survey}
use Rattle.flash_session.proofs.FoundLemmas.{works_found, refused, handed, surveyed_all}
use Rattle.flash_session.proofs.JobLemmas.{goal_length}
use Rattle.flash_session.specs.Goals.{goal_in}
use Rattle.flash_session.specs.Surveys.{planned_of, HasSurveyed}
use Rattle.flash_session.proofs.survey.survey_for.Goals as goal

pub returns-in-Ok-clause-found : goal.returns-in-Ok-clause-found
returns-in-Ok-clause-found g c =
    let j = c.args.job.now in
    let s = g.B.Bench.state c.args.bench.now in
    subst (λ (t : SessionWork). HasSurveyed g.B.Bench.tells j c.args.goal s.file s.cells
    (record { regions = map planned_of (t.first ∷ option_to_list t.second); goal = t.goal })) (sym c.in-Ok.ensures.session)
    (surveyed_all g.B.Bench.tells j c.args.goal s.file s.cells (λ told. g.met.B.Bench.all_told c.args.bench.now told ∙ c.requires.count)
    (λ told. goal_length j c.args.goal s.file (c.requires.stands told))
    c.in_ok-work.work c.in_ok-work.ensures.goal c.in_ok-work.ensures.found)

pub returns-in-Ok-clause-work : goal.returns-in-Ok-clause-work
returns-in-Ok-clause-work g c =
    let j = c.args.job.now in
    let s = g.B.Bench.state c.args.bench.now in
    let t = c.in_ok-work.work in
    c.in-Ok.ensures.work (works_found g.B.Bench.tells j 0 (algorithms_shown j.algorithms) s.cells (goal_in j c.args.goal s.file)
    (t.first ∷ option_to_list t.second) c.in_ok-work.ensures.found)

pub returns-in_err-work-clause-store : goal.returns-in_err-work-clause-store
returns-in_err-work-clause-store g c =
    let p = err_from_is_err_and c.from_residual.result c.from_residual.ensures.1 in
    handed is_store_fault Survey _ _ _ c.in_err-work.field-0.0 (p.1 ∙ ap (λ (e : SurveyFault). refused Survey e) p.2) c.in_err-work.ensures.store

pub returns-in_err-work-clause-device : goal.returns-in_err-work-clause-device
returns-in_err-work-clause-device g c =
    let p = err_from_is_err_and c.from_residual.result c.from_residual.ensures.1 in
    handed is_device_fault Survey _ _ _ c.in_err-work.field-0.0 (p.1 ∙ ap (λ (e : SurveyFault). refused Survey e) p.2) c.in_err-work.ensures.device
