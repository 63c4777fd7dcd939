-- `begin_job`: its clauses `told`, `early`, `kind`, `prints`, `sized`, `sound`, `first` and `counts`.
use Rattle.std.proofs.Common.{refl, sym, subst, ℕ}
use Rattle.std.proofs.lemmas.Result.{err_from_is_err_and}
use Rattle.bench_model.specs.State.{Left}
use Rattle.job_file.proofs.FirstLemmas.{syncs_then}
use Rattle.job_text.specs.Parts.{job_of}
use Rattle.flash_session.specs.declared.goal.Goal.TheVariants.{New}
use Rattle.report_text.specs.Shown.{shown}
use Rattle.command_files.specs.Answered.{StandsEarly, IsOf, on_job_file}
use Rattle.command_files.specs.Call.{Answer, bench_call, sink_call}
use Rattle.command_files.specs.Shown.{answer_of}
use Rattle.job_commands.specs.Answers.{IsSound}
use Rattle.job_commands.specs.GoOn.{work_to}
use Rattle.job_commands.specs.Printed.{PrintsWork}
use Rattle.job_commands.specs.Steps.{has_work, BenchCounted, BeginsParts}
use Rattle.job_commands.proofs.KindLemmas.{begun_kind, begun_sound, start_work, start_before}
use Rattle.job_commands.proofs.PrintLemmas.{start_prints, begun_prints}
use Rattle.job_commands.proofs.CountLemmas.{uncounted, begun_counted}
use Rattle.job_commands.proofs.BeginLemmas.{begun_of, begins_refused, carried, begins_whole, begun_stands}
use Rattle.job_commands.proofs.job_begin.begin_job.Goals as goal

pub returns-in_err-start : goal.returns-in_err-start
returns-in_err-start g c =
    let a = g.B.Bench.state c.args.bench.now in
    let b = g.B.Bench.state c.start.new.bench in
    let o = g.O.Sink.state c.args.out.now in
    let out = sink_call g.O.Sink.tells o o in
    let r = shown c.in_err-start.field-0.0 in
    let is = err_from_is_err_and c.from_residual.result c.from_residual.ensures.1 in
    rw (is.1, is.2) (record {
      told = λ told. begins_refused g.B.Bench.tells g.O.Sink.tells a b o c.args.parts.now r told c.in_err-start.ensures.kind
          (c.in_err-start.ensures.told told g.O.Sink.tells o);
      early = c.in_err-start.ensures.early g.O.Sink.tells o;
      kind = start_work r c.in_err-start.ensures.kind;
      prints = start_prints a.cell_count out r c.in_err-start.ensures.kind (record { taken = refl; faults = refl });
      sized = λ its. absurd (start_before r c.in_err-start.ensures.kind its);
      sound = c.in_err-start.ensures.sound;
      first = c.in_err-start.ensures.first;
      counts = c.in_err-start.ensures.counts g.O.Sink.tells o;
    })

pub returns-clause-told : goal.returns-clause-told
returns-clause-told g c = λ told.
    let a = g.B.Bench.state c.args.bench.now in
    let b = g.B.Bench.state c.start.new.bench in
    let d = g.B.Bench.state c.carry.new.bench in
    let p = g.O.Sink.state c.args.out.now in
    let r = g.O.Sink.state c.carry.new.out in
    let sized = c.in_ok-start.ensures.sized refl in
    let has = begun_of g.B.Bench.tells g.O.Sink.tells a b p c.args.parts.now c.requires sized (c.in_ok-start.ensures.told told g.O.Sink.tells p) in
    subst (λ (x : Answer). BeginsParts (bench_call g.B.Bench.tells a d) (sink_call g.O.Sink.tells p r) c.args.parts.now x) (sym c.after_begin.ensures)
    (begins_whole g.B.Bench.tells g.O.Sink.tells a b d p r c.args.parts.now (answer_of c.carry.result) sized c.start.ensures.count
    (g.met.B.Bench.all_told c.start.new.bench told) has (c.carry.ensures.told told) c.requires (c.carry.ensures.goes_on told))

pub returns-clause-early : goal.returns-clause-early
returns-clause-early g c =
    let a = g.B.Bench.state c.args.bench.now in
    let b = g.B.Bench.state c.start.new.bench in
    let d = g.B.Bench.state c.carry.new.bench in
    let p = g.O.Sink.state c.args.out.now in
    let r = g.O.Sink.state c.carry.new.out in
    let w = work_to New (job_of c.args.parts.now b.cells) c.requires.board c.requires.algorithms b.cells in
    subst (λ (x : Answer). StandsEarly on_job_file (bench_call g.B.Bench.tells a d) (sink_call g.O.Sink.tells p r) x) (sym c.after_begin.ensures)
    (begun_stands g.B.Bench.tells g.O.Sink.tells a b d p r (Left b) w (answer_of c.carry.result) c.carry.ensures.kind c.carry.ensures.early
    (λ told.
    let sized = c.in_ok-start.ensures.sized refl in
    let has = begun_of g.B.Bench.tells g.O.Sink.tells a b p c.args.parts.now c.requires sized (c.in_ok-start.ensures.told told g.O.Sink.tells p) in
    carried g.B.Bench.tells g.O.Sink.tells a b d p r c.args.parts.now (answer_of c.carry.result) sized c.start.ensures.count
    (g.met.B.Bench.all_told c.start.new.bench told) has (c.carry.ensures.told told) c.requires))

pub returns-clause-kind : goal.returns-clause-kind
returns-clause-kind g c = subst (λ (x : Answer). IsOf has_work x) (sym c.after_begin.ensures) (begun_kind (answer_of c.carry.result) c.carry.ensures.kind)

pub returns-clause-sound : goal.returns-clause-sound
returns-clause-sound g c = subst (λ (x : Answer). IsSound x) (sym c.after_begin.ensures) (begun_sound (answer_of c.carry.result) c.carry.ensures.sound)

pub returns-clause-sized : goal.returns-clause-sized
returns-clause-sized g c = λ its. c.in_ok-start.ensures.sized refl

pub returns-clause-prints : goal.returns-clause-prints
returns-clause-prints g c =
    let n = (g.B.Bench.state c.args.bench.now).cell_count in
    let out = sink_call g.O.Sink.tells (g.O.Sink.state c.args.out.now) (g.O.Sink.state c.carry.new.out) in
    subst (λ (x : Answer). PrintsWork n out x) (sym c.after_begin.ensures)
    (begun_prints n out (answer_of c.carry.result) (subst (λ (m : ℕ). PrintsWork m out (answer_of c.carry.result)) c.start.ensures.count
    c.carry.ensures.prints))

pub returns-clause-counts : goal.returns-clause-counts
returns-clause-counts g c =
    let a = g.B.Bench.state c.args.bench.now in
    let b = g.B.Bench.state c.start.new.bench in
    let d = g.B.Bench.state c.carry.new.bench in
    let p = g.O.Sink.state c.args.out.now in
    let out = sink_call g.O.Sink.tells p (g.O.Sink.state c.carry.new.out) in
    let counts = c.in_ok-start.ensures.counts g.O.Sink.tells p in
    subst (λ (x : Answer). BenchCounted (bench_call g.B.Bench.tells a d) out x) (sym c.after_begin.ensures)
    (begun_counted g.B.Bench.tells a b d out (answer_of c.carry.result) (uncounted a.store_faults b.store_faults _ counts.store_count)
    (uncounted a.device_faults b.device_faults _ counts.device_count) c.carry.ensures.counts)

pub returns-clause-first : goal.returns-clause-first
returns-clause-first g c = syncs_then c.in_ok-start.ensures.first (λ is. absurd (cc)) c.carry.ensures.goes_on
