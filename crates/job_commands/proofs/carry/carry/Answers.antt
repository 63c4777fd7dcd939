-- `carry`: its clauses `told`, `early`, `kind`, `sound`, `prints`, `first`, `goes_on` and `counts`, and what `carry_on` requires.
use Rattle.std.proofs.Common.{◌∙◌, refl, sym, ap, subst, ℕ, List}
use Rattle.std.proofs.lemmas.Bool.{false≢true}
use Rattle.job_file.proofs.FirstLemmas.{syncs_as, syncs_then}
use Rattle.bench_model.specs.History.{LeftOnly}
use Rattle.bench_model.specs.State.{file_half}
use Rattle.bench_model.proofs.Moments.{goes_then}
use Rattle.job_text.specs.Stands.{StandsFor}
use Rattle.flash_session.specs.Sessions.{job_in}
use Rattle.report_text.specs.Refusal.{Refusal}
use Rattle.command_files.specs.Answered.{StandsEarly, IsOf, on_job_file}
use Rattle.command_files.specs.Call.{bench_call, sink_call, refused}
use Rattle.command_files.specs.Shown.{answer_of}
use Rattle.job_commands.specs.Answers.{IsSound}
use Rattle.job_commands.specs.GoOn.{GoesOnFrom, has_resume}
use Rattle.job_commands.specs.Printed.{PrintsWork}
use Rattle.job_commands.specs.Steps.{BenchCounted}
use Rattle.job_commands.proofs.TurnLemmas.{off_at_end}
use Rattle.job_commands.proofs.CarryLemmas.{entered}
use Rattle.job_commands.proofs.KindLemmas.{session_kind, session_sound, session_file_fault}
use Rattle.job_commands.proofs.PrintLemmas.{session_prints}
use Rattle.job_commands.proofs.OpenLemmas.{refuses_open, open_stands}
use Rattle.job_commands.proofs.CountLemmas.{counted_behind, session_counted}
use Rattle.job_commands.proofs.carry.carry.Goals as goal

pub returns-in-Err-clause-told : goal.returns-in-Err-clause-told
returns-in-Err-clause-told g c = λ told.
    let a = g.B.Bench.state c.args.bench.now in
    let b = g.B.Bench.state c.open.new.bench in
    let o = g.O.Sink.state c.args.out.now in
    subst (λ (r : Refusal). GoesOnFrom c.args.goal (bench_call g.B.Bench.tells a b) (sink_call g.O.Sink.tells o o) (refused r)) (sym c.session_refusal.ensures)
    (refuses_open g.B.Bench.tells g.O.Sink.tells a b o c.args.goal (c.open.ensures.file told) (c.open.ensures.same told) c.open.ensures.pairs
    (off_at_end a b b.cells (c.open.ensures.same told) (entered a b (λ x at. (g.met.B.Bench.as_told c.args.bench.now x told).0 at) c.open.ensures.halves) refl
    (λ x at. (g.met.B.Bench.as_told c.open.new.bench x told).0 at))
    c.in-Err.fault (c.in-Err.ensures.refused told) c.in-Err.ensures.reads)

pub returns-in-Err-clause-early : goal.returns-in-Err-clause-early
returns-in-Err-clause-early g c =
    let a = g.B.Bench.state c.args.bench.now in
    let b = g.B.Bench.state c.open.new.bench in
    let o = g.O.Sink.state c.args.out.now in
    subst (λ (r : Refusal). StandsEarly on_job_file (bench_call g.B.Bench.tells a b) (sink_call g.O.Sink.tells o o) (refused r)) (sym c.session_refusal.ensures)
    (open_stands g.B.Bench.tells g.O.Sink.tells a b o c.args.goal c.in-Err.fault c.in-Err.ensures.reads)

pub returns-in-Err-clause-kind : goal.returns-in-Err-clause-kind
returns-in-Err-clause-kind g c = subst (λ (r : Refusal). IsOf has_resume (refused r)) (sym c.session_refusal.ensures) (session_kind c.in-Err.fault)

pub returns-in-Err-clause-sound : goal.returns-in-Err-clause-sound
returns-in-Err-clause-sound g c = subst (λ (r : Refusal). IsSound (refused r)) (sym c.session_refusal.ensures)
    (session_sound (g.B.Bench.state c.args.bench.now).cell_count c.in-Err.fault c.in-Err.ensures.sound)

pub returns-in-Err-clause-prints : goal.returns-in-Err-clause-prints
returns-in-Err-clause-prints g c =
    let n = (g.B.Bench.state c.args.bench.now).cell_count in
    let out = sink_call g.O.Sink.tells (g.O.Sink.state c.args.out.now) (g.O.Sink.state c.args.out.now) in
    subst (λ (r : Refusal). PrintsWork n out (refused r)) (sym c.session_refusal.ensures)
    (session_prints n out c.in-Err.fault (record { taken = refl; faults = refl }))

pub carry_on-end-requires-clause-stands : goal.carry_on-end-requires-clause-stands
carry_on-end-requires-clause-stands g c = λ told. subst (λ (f : List ℕ). StandsFor (job_in c.in-Ok.session) f) (sym (c.open.ensures.file told))
    (c.in-Ok.ensures.ok told)

pub carry_on-end-requires-clause-only : goal.carry_on-end-requires-clause-only
carry_on-end-requires-clause-only g c = λ told.
    subst (λ (f : List ℕ). LeftOnly f (file_half (g.B.Bench.state c.open.new.bench))) (sym (c.open.ensures.file told)) (c.in-Ok.ensures.only told)

pub returns-in-Ok-clause-told : goal.returns-in-Ok-clause-told
returns-in-Ok-clause-told g c = λ told.
    c.carry_on-end.ensures.told told c.args.bench.now (record {
      stands = c.in-Ok.ensures.ok told;
      sized = c.in-Ok.ensures.sized ∙ c.open.ensures.count;
      file = c.open.ensures.file told;
      same = c.open.ensures.same told;
      only = c.in-Ok.ensures.only told;
      pairs = c.open.ensures.pairs;
      halves = c.open.ensures.halves;
      exact = λ x at. (g.met.B.Bench.as_told c.args.bench.now x told).0 at;
    })

pub returns-in-Ok-clause-early : goal.returns-in-Ok-clause-early
returns-in-Ok-clause-early g c = c.carry_on-end.ensures.early c.args.bench.now

pub returns-in-Ok-clause-prints : goal.returns-in-Ok-clause-prints
returns-in-Ok-clause-prints g c =
    subst (λ (n : ℕ).
    PrintsWork n (sink_call g.O.Sink.tells (g.O.Sink.state c.args.out.now) (g.O.Sink.state c.carry_on-end.new.out)) (answer_of c.carry_on-end.result))
    c.open.ensures.count c.carry_on-end.ensures.prints

pub returns-in-Ok-clause-counts : goal.returns-in-Ok-clause-counts
returns-in-Ok-clause-counts g c =
    counted_behind g.B.Bench.tells (g.B.Bench.state c.args.bench.now) (g.B.Bench.state c.open.new.bench) (g.B.Bench.state c.carry_on-end.new.bench)
    (sink_call g.O.Sink.tells (g.O.Sink.state c.args.out.now) (g.O.Sink.state c.carry_on-end.new.out)) (answer_of c.carry_on-end.result)
    (c.in-Ok.ensures.store.on_other refl) (c.in-Ok.ensures.device.on_other refl) c.carry_on-end.ensures.counts

pub returns-in-Ok-clause-goes_on : goal.returns-in-Ok-clause-goes_on
returns-in-Ok-clause-goes_on g c = λ told. goes_then c.open.ensures.pairs.files (c.carry_on-end.ensures.goes_on told)

pub returns-in-Err-clause-counts : goal.returns-in-Err-clause-counts
returns-in-Err-clause-counts g c =
    let a = g.B.Bench.state c.args.bench.now in
    let b = g.B.Bench.state c.open.new.bench in
    let o = g.O.Sink.state c.args.out.now in
    subst (λ (r : Refusal). BenchCounted (bench_call g.B.Bench.tells a b) (sink_call g.O.Sink.tells o o) (refused r)) (sym c.session_refusal.ensures)
    (session_counted g.B.Bench.tells g.O.Sink.tells a b o c.in-Err.fault c.in-Err.ensures.store c.in-Err.ensures.device)

pub returns-in-Ok-clause-first : goal.returns-in-Ok-clause-first
returns-in-Ok-clause-first g c = syncs_then c.in-Ok.ensures.first (λ is. absurd (false≢true is)) c.carry_on-end.ensures.goes_on

pub returns-in-Err-clause-first : goal.returns-in-Err-clause-first
returns-in-Err-clause-first g c =
    syncs_as c.in-Err.ensures.first (λ is. ap (λ (r : Refusal). refused r) (c.session_refusal.ensures ∙ session_file_fault c.in-Err.fault is))
