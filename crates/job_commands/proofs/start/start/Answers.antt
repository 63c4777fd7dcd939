-- `start`: its clauses `told`, `early`, `kind`, `sound`, `first` and `counts`.
use Rattle.std.proofs.Common.{◌≡◌, ◌∙◌, refl, sym, ap, subst, length, []}
use Rattle.std.proofs.lemmas.Bool.{false≢true}
use Rattle.job_file.proofs.FirstLemmas.{syncs_as}
use Rattle.report_text.specs.Refusal.{Refusal}
use Rattle.command_files.specs.Answered.{StandsEarly, IsOf, on_job_file}
use Rattle.command_files.specs.Call.{bench_call, sink_call, refused}
use Rattle.job_commands.specs.Answers.{IsSound}
use Rattle.job_commands.specs.Steps.{has_start, BenchCounted, StartsParts}
use Rattle.job_commands.proofs.TurnLemmas.{off_at_end}
use Rattle.job_commands.proofs.CarryLemmas.{entered}
use Rattle.job_commands.proofs.KindLemmas.{begin_kind, begin_sound, begin_file_fault}
use Rattle.job_commands.proofs.CountLemmas.{none_counted, begin_counted}
use Rattle.job_commands.proofs.StartLemmas.{begin_stands, refuses_begin, starts_done}
use Rattle.job_commands.proofs.start.start.Goals as goal

pub returns-in-Err-clause-told : goal.returns-in-Err-clause-told
returns-in-Err-clause-told g c = λ told sinks o.
    let a = g.B.Bench.state c.args.bench.now in
    let b = g.B.Bench.state c.begin.new.bench in
    let many : length b.cells ≡ a.cell_count = g.met.B.Bench.all_told c.begin.new.bench told ∙ c.begin.ensures.count in
    let moments = entered a b (λ x at. (g.met.B.Bench.as_told c.args.bench.now x told).0 at) c.begin.ensures.cells in
    subst (λ (r : Refusal). StartsParts (bench_call g.B.Bench.tells a b) (sink_call sinks o o) [] c.args.parts.now (refused r)) (sym c.begin_refusal.ensures)
    (refuses_begin g.B.Bench.tells sinks a b o c.args.parts.now told (c.begin.ensures.looked told) (c.begin.ensures.same told) (c.begin.ensures.after told)
    (c.begin.ensures.stops told) moments
    (off_at_end a b b.cells (c.begin.ensures.same told) moments refl (λ x at. (g.met.B.Bench.as_told c.begin.new.bench x told).0 at)) many
    c.in-Err.fault (c.in-Err.ensures.refused told) c.in-Err.ensures.reads (c.in-Err.ensures.unopened told))

pub returns-in-Ok-clause-told : goal.returns-in-Ok-clause-told
returns-in-Ok-clause-told g c = λ told sinks o.
    let a = g.B.Bench.state c.args.bench.now in
    let b = g.B.Bench.state c.begin.new.bench in
    let many : length b.cells ≡ a.cell_count = g.met.B.Bench.all_told c.begin.new.bench told ∙ c.begin.ensures.count in
    let moments = entered a b (λ x at. (g.met.B.Bench.as_told c.args.bench.now x told).0 at) c.begin.ensures.cells in
    let ok = c.in-Ok.ensures.ok told in
    starts_done g.B.Bench.tells sinks a b o c.args.parts.now told (c.begin.ensures.looked told) (c.begin.ensures.same told) (c.begin.ensures.after told)
    (c.begin.ensures.stops told) moments
    (off_at_end a b b.cells (c.begin.ensures.same told) moments refl (λ x at. (g.met.B.Bench.as_told c.begin.new.bench x told).0 at)) many
    (c.in-Ok.ensures.free told) (c.in-Ok.ensures.sized refl) ok.0 ok.1 ok.2

pub returns-in-Err-clause-early : goal.returns-in-Err-clause-early
returns-in-Err-clause-early g c = λ sinks o.
    let a = g.B.Bench.state c.args.bench.now in
    let b = g.B.Bench.state c.begin.new.bench in
    subst (λ (r : Refusal). StandsEarly on_job_file (bench_call g.B.Bench.tells a b) (sink_call sinks o o) (refused r)) (sym c.begin_refusal.ensures)
    (begin_stands g.B.Bench.tells sinks a b o c.args.parts.now c.in-Err.fault c.in-Err.ensures.reads)

pub returns-in-Err-clause-kind : goal.returns-in-Err-clause-kind
returns-in-Err-clause-kind g c = subst (λ (r : Refusal). IsOf has_start (refused r)) (sym c.begin_refusal.ensures) (begin_kind c.in-Err.fault)

pub returns-in-Err-clause-sound : goal.returns-in-Err-clause-sound
returns-in-Err-clause-sound g c = subst (λ (r : Refusal). IsSound (refused r)) (sym c.begin_refusal.ensures)
    (begin_sound c.args.parts.now.size (g.B.Bench.state c.args.bench.now).cell_count c.in-Err.fault c.in-Err.ensures.sound)

pub returns-in-Err-clause-counts : goal.returns-in-Err-clause-counts
returns-in-Err-clause-counts g c = λ sinks o.
    let a = g.B.Bench.state c.args.bench.now in
    let b = g.B.Bench.state c.begin.new.bench in
    subst (λ (r : Refusal). BenchCounted (bench_call g.B.Bench.tells a b) (sink_call sinks o o) (refused r)) (sym c.begin_refusal.ensures)
    (begin_counted g.B.Bench.tells sinks a b o c.in-Err.fault c.in-Err.ensures.store c.in-Err.ensures.device)

pub returns-in-Ok-clause-counts : goal.returns-in-Ok-clause-counts
returns-in-Ok-clause-counts g c = λ sinks o.
    none_counted g.B.Bench.tells sinks (g.B.Bench.state c.args.bench.now) (g.B.Bench.state c.begin.new.bench) o (c.in-Ok.ensures.store.on_other refl)
    (c.in-Ok.ensures.device.on_other refl)

pub returns-in-Ok-clause-sized : goal.returns-in-Ok-clause-sized
returns-in-Ok-clause-sized g c = c.in-Ok.ensures.sized

pub returns-in-Ok-clause-first : goal.returns-in-Ok-clause-first
returns-in-Ok-clause-first g c = syncs_as c.in-Ok.ensures.first (λ is. absurd (false≢true is))

pub returns-in-Err-clause-first : goal.returns-in-Err-clause-first
returns-in-Err-clause-first g c =
    syncs_as c.in-Err.ensures.first (λ is. ap (λ (r : Refusal). refused r) (c.begin_refusal.ensures ∙ begin_file_fault c.in-Err.fault is))
