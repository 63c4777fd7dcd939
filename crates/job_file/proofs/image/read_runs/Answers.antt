-- `read_runs`: its clauses `gives`, `text`, `inside`, `taken` and `reads`, that its loop keeps its invariant, and what `read_run` requires.
use Rattle.std.proofs.Common.{List, drop, refl, sym, subst, arith}
use Rattle.std.proofs.lemmas.Grind.{common_steps}
use Rattle.byte_map.specs.Image.{Run}
use Rattle.std.proofs.lemmas.Result.{err_from_is_err_and}
use Rattle.bench_model.proofs.Moments.{only_reads_then}
use Rattle.job_text.specs.Reading.{runs_at}
use Rattle.job_text.proofs.LoopLemmas.{is_done}
use Rattle.job_text.proofs.CoverLemmas.{under_most}
use Rattle.job_file.proofs.ImageLemmas.{RunsSoFar, no_runs_yet, run_of_same, run_more, run_fails}
use Rattle.job_file.proofs.image.read_runs.Goals as goal

pub loop-init : goal.loop-init
loop-init g c =
    let s = g.B.Bench.state c.args.bench.now in
    subst (λ (image : List Run). RunsSoFar g.B.Bench.tells s s c.args.whole c.args.regions.now 0 c.args.count c.args.start c.args.start image c.args.window.now
    0) (sym c.new-image.ensures)
    (no_runs_yet g.B.Bench.tells s c.args.whole c.args.regions.now c.args.count c.args.start c.args.window.now c.requires.within c.requires.room)

pub read_run-requires-clause-maximal : goal.read_run-requires-clause-maximal
read_run-requires-clause-maximal g c = c.loop.invariant.maximal

pub returns-in_err-place-clause-gives : goal.returns-in_err-place-clause-gives
returns-in_err-place-clause-gives g c = λ told.
    let p = err_from_is_err_and c.from_residual.result c.from_residual.ensures.1 in
    rw (p.1, p.2) (run_fails g.B.Bench.tells (g.B.Bench.state c.args.bench.now) (g.B.Bench.state c.loop.bench) c.args.whole c.args.regions.now c.loop.from
    c.args.count c.args.start c.loop.at c.loop.image c.loop.window c.loop.counter
    c.in_err-place.field-0.0 c.loop.invariant c.loop-test.true c.in_err-place.ensures.err told)

pub loop-preserved : goal.loop-preserved
loop-preserved g c =
    let so_far = c.loop.invariant in
    let s = g.B.Bench.state c.args.bench.now in
    let now = g.B.Bench.state c.loop.bench in
    let e = c.in_ok-place.ensures in
    let place = c.in_ok-place.place in
    let len = c.in_ok-place.len in
    run_more g.B.Bench.tells s now (g.B.Bench.state c.read_run.new.bench) c.args.whole c.args.regions.now c.loop.from c.args.count c.args.start
    c.loop.at c.loop.image c.read_run.new.image c.loop.window c.read_run.new.window c.loop.counter place len _ _
    so_far c.loop-test.true
    (run_of_same g.B.Bench.tells s.file now.file c.args.whole c.args.regions.now c.loop.from c.loop.at c.loop.image c.read_run.new.image place len
    so_far.reads.file e.ok)
    e.reads (e.counted.on_other refl) c.read_run.auto.window (omega arith) (omega arith)

pub returns-clause-gives : goal.returns-clause-gives
returns-clause-gives g c = λ told.
    let s = g.B.Bench.state c.args.bench.now in
    is_done c.args.whole c.args.regions.now c.loop.from c.loop.image c.args.count c.loop.counter (drop c.loop.at s.file)
    (runs_at c.args.whole c.args.regions.now c.args.count 0 (drop c.args.start s.file)) c.loop-test.false (c.loop.invariant.said told)

pub returns-clause-text : goal.returns-clause-text
returns-clause-text g c = λ told. c.loop.invariant.text told

pub returns-clause-inside : goal.returns-clause-inside
returns-clause-inside g c = (c.loop.invariant.maximal, c.loop.invariant.covered)

pub returns-clause-taken : goal.returns-clause-taken
returns-clause-taken g c = omega (arith, c.loop.invariant.used, under_most c.args.regions.now c.loop.from)

pub returns-in_err-place-clause-reads : goal.returns-in_err-place-clause-reads
returns-in_err-place-clause-reads g c = only_reads_then c.loop.invariant.reads c.read_run.ensures.reads

pub read_run-requires-clause-behind : goal.read_run-requires-clause-behind
read_run-requires-clause-behind g c = grind (arith, common_steps)

pub read_run-requires-clause-told : goal.read_run-requires-clause-told
read_run-requires-clause-told g c = grind (arith, common_steps)

pub returns-clause-counted : goal.returns-clause-counted
returns-clause-counted g c = grind (arith, common_steps)
