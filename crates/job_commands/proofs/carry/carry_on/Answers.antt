-- `carry_on`: its clauses `sound`, `told`, `early`, `counts`, `kind`, `prints` and `goes_on`, and what `put_plans` and `finish` require.
use Rattle.std.proofs.Common.{◌∙◌, refl, sym, ap, subst, ℕ, List, IsSomeAnd}
use Rattle.std.proofs.lemmas.Result.{err_from_is_err_and}
use Rattle.bench_model.specs.History.{LeftOnly}
use Rattle.bench_model.specs.State.{file_half}
use Rattle.bench_model.proofs.Moments.{goes_then, still_only}
use Rattle.board_file.specs.Limits.{size_of}
use Rattle.job_text.specs.Said.{algorithms_shown}
use Rattle.job_text.specs.declared.job.Job as code
use Rattle.job_text.specs.Stands.{StandsFor}
use Rattle.flash_session.specs.Sessions.{job_in, surveyed}
use Rattle.report_text.specs.Refusal.{Refusal}
use Rattle.command_files.specs.Answered.{StandsEarly, IsOf, on_job_file}
use Rattle.command_files.specs.Call.{bench_call, sink_call, refused}
use Rattle.command_files.specs.Shown.{answer_of}
use Rattle.job_commands.specs.Answers.{IsSound}
use Rattle.job_commands.specs.GoOn.{GoesOnFrom, has_resume}
use Rattle.job_commands.specs.Printed.{ArePlansFor, PrintsWork}
use Rattle.job_commands.specs.Steps.{BenchCounted}
use Rattle.job_commands.specs.Work.{plans_shown}
use Rattle.flash_session.specs.Surveys.{Surveyed, HasSurveyed}
use Rattle.job_commands.proofs.CountLemmas.{survey_counted, cut_counted, carried_counted}
use Rattle.job_commands.proofs.KindLemmas.{script_kind, script_stands, survey_kind, survey_sound}
use Rattle.job_commands.proofs.PrintLemmas.{survey_prints, surveyed_plans, cut_prints, end_prints}
use Rattle.job_commands.proofs.OpenLemmas.{survey_stands}
use Rattle.job_commands.proofs.SurveyLemmas.{unsurveyed, cut_in_plan, finished}
use Rattle.job_commands.proofs.carry.carry_on.Goals as goal

pub returns-in-Err-clause-sound : goal.returns-in-Err-clause-sound
returns-in-Err-clause-sound g c = subst (λ (r : Refusal). IsSound (refused r)) (sym c.survey_refusal.ensures) (survey_sound c.in-Err.fault)

pub returns-in-Err-clause-told : goal.returns-in-Err-clause-told
returns-in-Err-clause-told g c = λ told entry was.
    let a = g.B.Bench.state entry in
    let b = g.B.Bench.state c.args.bench.now in
    let m = g.B.Bench.state c.survey.new.bench in
    let o = g.O.Sink.state c.args.out.now in
    subst (λ (r : Refusal). GoesOnFrom c.args.goal (bench_call g.B.Bench.tells a m) (sink_call g.O.Sink.tells o o) (refused r)) (sym c.survey_refusal.ensures)
    (unsurveyed g.B.Bench.tells g.O.Sink.tells told a b m c.args.goal (job_in c.args.session.now) was (c.requires.idle told)
    (λ x at. (g.met.B.Bench.as_told c.args.bench.now x told).0 at) c.survey.ensures.reads c.survey.ensures.pairs o c.in-Err.fault)

pub returns-in-Err-clause-early : goal.returns-in-Err-clause-early
returns-in-Err-clause-early g c = λ entry.
    let bench = bench_call g.B.Bench.tells (g.B.Bench.state entry) (g.B.Bench.state c.survey.new.bench) in
    let out = sink_call g.O.Sink.tells (g.O.Sink.state c.args.out.now) (g.O.Sink.state c.args.out.now) in
    subst (λ (r : Refusal). StandsEarly on_job_file bench out (refused r)) (sym c.survey_refusal.ensures)
    (survey_stands bench out c.in-Err.fault (record { taken = refl; faults = refl }))

pub returns-in-Err-clause-counts : goal.returns-in-Err-clause-counts
returns-in-Err-clause-counts g c =
    let b = g.B.Bench.state c.args.bench.now in
    let m = g.B.Bench.state c.survey.new.bench in
    let o = g.O.Sink.state c.args.out.now in
    subst (λ (r : Refusal). BenchCounted (bench_call g.B.Bench.tells b m) (sink_call g.O.Sink.tells o o) (refused r)) (sym c.survey_refusal.ensures)
    (survey_counted g.B.Bench.tells g.O.Sink.tells b m o c.in-Err.fault c.in-Err.ensures.store c.in-Err.ensures.device)

pub returns-in-Err-clause-kind : goal.returns-in-Err-clause-kind
returns-in-Err-clause-kind g c = subst (λ (r : Refusal). IsOf has_resume (refused r)) (sym c.survey_refusal.ensures) (survey_kind c.in-Err.fault)

pub put_plans-requires : goal.put_plans-requires
put_plans-requires g c =
    subst (λ (j : code.Job). IsSomeAnd (surveyed c.survey.new.self) (λ v. ArePlansFor (algorithms_shown j.algorithms) v.regions)) (sym c.survey.ensures.job)
    (surveyed_plans g.B.Bench.tells (job_in c.args.session.now) c.args.goal (g.B.Bench.state c.args.bench.now).file (g.B.Bench.state c.args.bench.now).cells
    (surveyed c.survey.new.self) c.in-Ok.ensures.ok)

pub returns-in_err-put_plans-clause-told : goal.returns-in_err-put_plans-clause-told
returns-in_err-put_plans-clause-told g c =
    let b = g.B.Bench.state c.args.bench.now in
    let m = g.B.Bench.state c.survey.new.bench in
    let is = err_from_is_err_and c.from_residual.result c.from_residual.ensures.1 in
    rw (is.1, is.2) (λ told entry was. cut_in_plan g.B.Bench.tells g.O.Sink.tells told (g.B.Bench.state entry) b m c.args.goal (job_in c.args.session.now) was
    (c.requires.idle told)
    (λ x at. (g.met.B.Bench.as_told c.args.bench.now x told).0 at) c.survey.ensures.reads c.survey.ensures.pairs
    (surveyed c.survey.new.self) c.in-Ok.ensures.ok
    (g.O.Sink.state c.args.out.now) (g.O.Sink.state c.put_plans.new.out) _ c.in_err-put_plans.ensures)

pub returns-clause-told : goal.returns-clause-told
returns-clause-told g c = λ told entry was.
    let a = g.B.Bench.state entry in
    let b = g.B.Bench.state c.args.bench.now in
    let m = g.B.Bench.state c.survey.new.bench in
    finished g.B.Bench.tells g.O.Sink.tells told a b m c.args.goal (job_in c.args.session.now) was (c.requires.idle told)
    (λ x at. (g.met.B.Bench.as_told c.args.bench.now x told).0 at) c.survey.ensures.reads c.survey.ensures.pairs
    (surveyed c.survey.new.self) c.in-Ok.ensures.ok
    (job_in c.survey.new.self) (g.B.Bench.state c.finish.new.bench) (g.O.Sink.state c.args.out.now) (g.O.Sink.state c.put_plans.new.out)
    (g.O.Sink.state c.finish.new.out)
    (answer_of c.finish.result) c.survey.ensures.job _ c.in_ok-put_plans.ensures
    (λ stands found. c.finish.ensures.told told c.args.goal stands found)

pub returns-clause-early : goal.returns-clause-early
returns-clause-early g c = λ entry. script_stands (bench_call g.B.Bench.tells (g.B.Bench.state entry) (g.B.Bench.state c.finish.new.bench))
    (sink_call g.O.Sink.tells (g.O.Sink.state c.args.out.now) (g.O.Sink.state c.finish.new.out)) (answer_of c.finish.result) c.finish.ensures.kind

pub returns-clause-kind : goal.returns-clause-kind
returns-clause-kind g c = script_kind (answer_of c.finish.result) c.finish.ensures.kind

pub returns-in-Err-clause-prints : goal.returns-in-Err-clause-prints
returns-in-Err-clause-prints g c =
    let n = (g.B.Bench.state c.args.bench.now).cell_count in
    let out = sink_call g.O.Sink.tells (g.O.Sink.state c.args.out.now) (g.O.Sink.state c.args.out.now) in
    subst (λ (r : Refusal). PrintsWork n out (refused r)) (sym c.survey_refusal.ensures)
    (survey_prints n out c.in-Err.fault (record { taken = refl; faults = refl }))

pub returns-in_err-put_plans-clause-prints : goal.returns-in_err-put_plans-clause-prints
returns-in_err-put_plans-clause-prints g c =
    let n = (g.B.Bench.state c.args.bench.now).cell_count in
    let b = g.B.Bench.state c.args.bench.now in
    let is = err_from_is_err_and c.from_residual.result c.from_residual.ensures.1 in
    rw (is.1, is.2) (cut_prints g.O.Sink.tells g.B.Bench.tells (job_in c.args.session.now) c.args.goal b.file b.cells n (sym c.requires.count)
    (g.O.Sink.state c.args.out.now) (g.O.Sink.state c.put_plans.new.out) (surveyed c.survey.new.self) _ c.in-Ok.ensures.ok c.in_err-put_plans.ensures)

pub returns-clause-prints : goal.returns-clause-prints
returns-clause-prints g c =
    let n = (g.B.Bench.state c.args.bench.now).cell_count in
    let b = g.B.Bench.state c.args.bench.now in
    end_prints g.O.Sink.tells g.B.Bench.tells (job_in c.args.session.now) c.args.goal b.file b.cells n (sym c.requires.count)
    (g.O.Sink.state c.args.out.now) (g.O.Sink.state c.put_plans.new.out) (surveyed c.survey.new.self) _ c.in-Ok.ensures.ok c.in_ok-put_plans.ensures
    (g.O.Sink.state c.finish.new.out) (answer_of c.finish.result) c.finish.ensures.kind c.finish.ensures.prints

pub returns-in_err-put_plans-clause-counts : goal.returns-in_err-put_plans-clause-counts
returns-in_err-put_plans-clause-counts g c =
    let b = g.B.Bench.state c.args.bench.now in
    let m = g.B.Bench.state c.survey.new.bench in
    let is = err_from_is_err_and c.from_residual.result c.from_residual.ensures.1 in
    rw (is.1, is.2) (cut_counted g.B.Bench.tells g.O.Sink.tells b m (g.O.Sink.state c.args.out.now) (g.O.Sink.state c.put_plans.new.out)
    (λ (v : Surveyed). plans_shown v.regions)
    (λ (v : Surveyed). HasSurveyed g.B.Bench.tells (job_in c.args.session.now) c.args.goal b.file b.cells v)
    (c.in-Ok.ensures.store.on_other refl) (c.in-Ok.ensures.device.on_other refl)
    (surveyed c.survey.new.self) _ c.in-Ok.ensures.ok c.in_err-put_plans.ensures)

pub returns-clause-counts : goal.returns-clause-counts
returns-clause-counts g c =
    let b = g.B.Bench.state c.args.bench.now in
    let m = g.B.Bench.state c.survey.new.bench in
    carried_counted g.B.Bench.tells g.O.Sink.tells b m (g.O.Sink.state c.args.out.now) (g.O.Sink.state c.put_plans.new.out)
    (λ (v : Surveyed). plans_shown v.regions)
    (λ (v : Surveyed). HasSurveyed g.B.Bench.tells (job_in c.args.session.now) c.args.goal b.file b.cells v)
    (c.in-Ok.ensures.store.on_other refl) (c.in-Ok.ensures.device.on_other refl)
    (surveyed c.survey.new.self) _ c.in-Ok.ensures.ok c.in_ok-put_plans.ensures
    (g.B.Bench.state c.finish.new.bench) (g.O.Sink.state c.finish.new.out) (answer_of c.finish.result) c.finish.ensures.counts

pub finish-requires-clause-stands : goal.finish-requires-clause-stands
finish-requires-clause-stands g c = λ told.
    subst (λ (j : code.Job). StandsFor j (g.B.Bench.state c.survey.new.bench).file) (sym c.survey.ensures.job)
    (subst (λ (f : List ℕ). StandsFor (job_in c.args.session.now) f) (sym (c.survey.ensures.reads.file.file told)) (c.requires.stands told))

pub finish-requires-clause-only : goal.finish-requires-clause-only
finish-requires-clause-only g c = λ told.
    let b = g.B.Bench.state c.args.bench.now in
    let m = g.B.Bench.state c.survey.new.bench in
    subst (λ (f : List ℕ). LeftOnly f (file_half m)) (sym (c.survey.ensures.reads.file.file told))
    (still_only b.file c.survey.ensures.reads.file.moments (c.requires.only told))

pub finish-requires-clause-idle : goal.finish-requires-clause-idle
finish-requires-clause-idle g c = λ told. c.survey.ensures.reads.cells.operation told ∙ c.requires.idle told

pub returns-clause-goes_on : goal.returns-clause-goes_on
returns-clause-goes_on g c = λ told. goes_then c.survey.ensures.reads.file.moments.goes_on (c.finish.ensures.goes_on told)

pub finish-requires-clause-count : goal.finish-requires-clause-count
finish-requires-clause-count g c =
    c.survey.ensures.reads.cells.count ∙ (c.requires.count ∙ ap (λ (j : code.Job). size_of j.board.regions) (sym c.survey.ensures.job))
