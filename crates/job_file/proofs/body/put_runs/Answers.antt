-- `put_runs`: its clauses `appends` and `end`, that its loop keeps its invariant, and what `put_run` requires.
use Rattle.std.proofs.Common.{◌≡◌, ◌+◌, ◌++◌, ◌∙◌, List, Result, Err, take, length, ap, arith}
use Rattle.std.specs.List.{flat_map}
use Rattle.std.proofs.lemmas.List.{take_all}
use Rattle.bench_model.specs.declared.bench_fault.StoreFault.{StoreFault}
use Rattle.byte_map.specs.Image.{Run}
use Rattle.job_text.specs.Body.{run_text}
use Rattle.job_text.specs.Runs.{run_of}
use Rattle.job_text.proofs.PartLemmas.{short_run}
use Rattle.job_file.proofs.BodyLemmas.{appends_nothing, appends_as, appends_then, appends_fails, run_put, appended_end}
use Rattle.job_file.proofs.body.put_runs.Goals as goal

pub loop-index-init : goal.loop-index-init
loop-index-init g c = record { appends = appends_nothing g.B.Bench.tells (g.B.Bench.state c.args.bench.now); ends = omega arith; bound = omega arith }

pub put_run-requires-clause-end : goal.put_run-requires-clause-end
put_run-requires-clause-end g c =
    let so_far = c.loop-index.invariant in
    appended_end g.B.Bench.tells (g.B.Bench.state c.args.bench.now) (g.B.Bench.state c.loop-index.bench)
    (flat_map run_text (take c.loop-index.index c.args.image.now)) tt c.args.from c.loop-index.at so_far.appends c.requires.end so_far.ends

pub put_run-requires-clause-short : goal.put_run-requires-clause-short
put_run-requires-clause-short g c = short_run c.args.image.now c.loop-index.index (run_of c.run-place.result.0 c.run-place.result.1.now) c.requires.short
    (omega arith) c.run-place.ensures

pub returns-in-Err-clause-appends : goal.returns-in-Err-clause-appends
returns-in-Err-clause-appends g c =
    let s = g.B.Bench.state c.args.bench.now in
    let now = g.B.Bench.state c.loop-index.bench in
    let t = g.B.Bench.state c.put_run.new.bench in
    let put = flat_map run_text (take c.loop-index.index c.args.image.now) in
    let run = run_text (run_of c.run-place.result.0 c.run-place.result.1.now) in
    let failed : Result (Unit {0}) StoreFault = Err c.in-Err.fault in
    appends_fails g.B.Bench.tells s t (put ++ run) (flat_map run_text c.args.image.now) c.in-Err.fault
    (appends_then g.B.Bench.tells s now t put run tt failed c.loop-index.invariant.appends c.in-Err.ensures)

pub loop-index-preserved : goal.loop-index-preserved
loop-index-preserved g c =
    run_put g.B.Bench.tells (g.B.Bench.state c.args.bench.now) (g.B.Bench.state c.loop-index.bench) (g.B.Bench.state c.put_run.new.bench) c.args.from
    c.loop-index.at c.args.image.now c.loop-index.index (run_of c.run-place.result.0 c.run-place.result.1.now) _
    c.runs-index-end.ensures.maximal (omega arith) c.run-place.ensures c.loop-index.invariant c.in-Ok.ensures (omega arith)

pub returns-clause-appends : goal.returns-clause-appends
returns-clause-appends g c =
    let s = g.B.Bench.state c.args.bench.now in
    let now = g.B.Bench.state c.loop-index.bench in
    let all : take c.loop-index.index c.args.image.now ≡ c.args.image.now = take_all c.loop-index.index c.args.image.now (omega arith) in
    appends_as g.B.Bench.tells s now (flat_map run_text (take c.loop-index.index c.args.image.now)) (flat_map run_text c.args.image.now) tt
    c.loop-index.at (ap (flat_map run_text) all) c.loop-index.invariant.appends

pub returns-clause-end : goal.returns-clause-end
returns-clause-end g c =
    let all : take c.loop-index.index c.args.image.now ≡ c.args.image.now = take_all c.loop-index.index c.args.image.now (omega arith) in
    c.loop-index.invariant.ends ∙ ap (λ (rs : List Run). c.args.from + length (flat_map run_text rs)) all
