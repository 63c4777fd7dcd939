-- `begin_alone`: its clauses `told`, `early`, `kind`, `prints`, `sized`, `sound` and `counts`.
use Rattle.std.proofs.Common.{refl}
use Rattle.std.proofs.lemmas.Result.{err_from_is_err_and}
use Rattle.report_text.specs.Shown.{shown}
use Rattle.command_files.specs.Call.{bench_call, sink_call}
use Rattle.job_commands.specs.Begin.{begun_text}
use Rattle.job_commands.proofs.KindLemmas.{start_alone, start_before}
use Rattle.job_commands.proofs.PrintLemmas.{start_prints_begun}
use Rattle.job_commands.proofs.CountLemmas.{put_counted, unput_counted}
use Rattle.job_commands.proofs.StartLemmas.{starts_with, starts_put, starts_cut}
use Rattle.job_commands.proofs.job_begin.begin_alone.Goals as goal

pub returns-in_err-start : goal.returns-in_err-start
returns-in_err-start g c =
    let a = g.B.Bench.state c.args.bench.now in
    let b = g.B.Bench.state c.start.new.bench in
    let o = g.O.Sink.state c.args.out.now in
    let out = sink_call g.O.Sink.tells o o in
    let r = shown c.in_err-start.field-0.0 in
    let is = err_from_is_err_and c.from_residual.result c.from_residual.ensures.1 in
    rw (is.1, is.2) (record {
      told = λ told. starts_with (bench_call g.B.Bench.tells a b) out begun_text c.args.parts.now r c.in_err-start.ensures.kind
          (c.in_err-start.ensures.told told g.O.Sink.tells o);
      early = c.in_err-start.ensures.early g.O.Sink.tells o;
      kind = start_alone r c.in_err-start.ensures.kind;
      prints = start_prints_begun a.cell_count out r c.in_err-start.ensures.kind (record { taken = refl; faults = refl });
      sized = λ its. absurd (start_before r c.in_err-start.ensures.kind its);
      sound = c.in_err-start.ensures.sound;
      counts = c.in_err-start.ensures.counts g.O.Sink.tells o;
    })

pub returns-in_err-put_end-clause-told : goal.returns-in_err-put_end-clause-told
returns-in_err-put_end-clause-told g c =
    let a = g.B.Bench.state c.args.bench.now in
    let b = g.B.Bench.state c.start.new.bench in
    let p = g.O.Sink.state c.args.out.now in
    let r = g.O.Sink.state c.put_end.new.out in
    let puts = c.in_err-put_end.ensures in
    let is = err_from_is_err_and c.from_residual-in_err-put_end.result c.from_residual-in_err-put_end.ensures.1 in
    rw (is.1, is.2) (λ told. starts_cut g.B.Bench.tells g.O.Sink.tells a b p r begun_text c.args.parts.now (c.in_ok-start.ensures.sized refl)
    (c.in_ok-start.ensures.told told g.O.Sink.tells p)
    (record { taken = puts.err; later = puts.cause.later; rose = puts.cause.on_fault refl }))

pub returns-in_err-put_end-clause-prints : goal.returns-in_err-put_end-clause-prints
returns-in_err-put_end-clause-prints g c =
    let is = err_from_is_err_and c.from_residual-in_err-put_end.result c.from_residual-in_err-put_end.ensures.1 in
    rw (is.1, is.2) (record {
      taken = c.in_err-put_end.ensures.err;
      later = c.in_err-put_end.ensures.cause.later;
      rose =
          c.in_err-put_end.ensures.cause.on_fault refl;
    })

pub returns-in_err-put_end-clause-sized : goal.returns-in_err-put_end-clause-sized
returns-in_err-put_end-clause-sized g c =
    let is = err_from_is_err_and c.from_residual-in_err-put_end.result c.from_residual-in_err-put_end.ensures.1 in
    rw (is.1, is.2) (λ its. c.in_ok-start.ensures.sized refl)

pub returns-in_err-put_end-clause-counts : goal.returns-in_err-put_end-clause-counts
returns-in_err-put_end-clause-counts g c =
    let p = g.O.Sink.state c.args.out.now in
    let is = err_from_is_err_and c.from_residual-in_err-put_end.result c.from_residual-in_err-put_end.ensures.1 in
    rw (is.1, is.2) (unput_counted g.B.Bench.tells g.O.Sink.tells (g.B.Bench.state c.args.bench.now) (g.B.Bench.state c.start.new.bench) p
    (g.O.Sink.state c.put_end.new.out)
    (c.in_ok-start.ensures.counts g.O.Sink.tells p) (c.in_err-put_end.ensures.cause.on_fault refl) c.in_err-put_end.ensures.cause.later)

pub returns-clause-told : goal.returns-clause-told
returns-clause-told g c = λ told.
    let a = g.B.Bench.state c.args.bench.now in
    let b = g.B.Bench.state c.start.new.bench in
    let p = g.O.Sink.state c.args.out.now in
    let r = g.O.Sink.state c.put_end.new.out in
    let puts = c.in_ok-put_end.ensures in
    starts_put g.B.Bench.tells g.O.Sink.tells a b p r begun_text c.args.parts.now (c.in_ok-start.ensures.sized refl)
    (c.in_ok-start.ensures.told told g.O.Sink.tells p)
    (record { taken = puts.ok; faults = puts.cause.on_ok refl })

pub returns-clause-prints : goal.returns-clause-prints
returns-clause-prints g c = record { taken = c.in_ok-put_end.ensures.ok; faults = c.in_ok-put_end.ensures.cause.on_ok refl }

pub returns-clause-sized : goal.returns-clause-sized
returns-clause-sized g c = λ its. c.in_ok-start.ensures.sized refl

pub returns-clause-counts : goal.returns-clause-counts
returns-clause-counts g c =
    let p = g.O.Sink.state c.args.out.now in
    put_counted g.B.Bench.tells g.O.Sink.tells (g.B.Bench.state c.args.bench.now) (g.B.Bench.state c.start.new.bench) p (g.O.Sink.state c.put_end.new.out)
    (c.in_ok-start.ensures.counts g.O.Sink.tells p) (c.in_ok-put_end.ensures.cause.on_ok refl)
