-- `find_in_region`: its clauses `ok`, `bench` and `cause`, that its loop keeps its invariant, and what `find_in_run` requires.
use Rattle.std.proofs.Common.{refl, sym, arith, ◌∙◌, None}
use Rattle.flm_cli.proofs.DifferenceLemmas.{runs_here, run_ends, runs_then, runs_differ, all_agree, uncaused}
use Rattle.readback.proofs.ReadbackLemmas.{only_reads_cells_then}
use Rattle.flm_cli.proofs.verify.find_in_region.Goals as goal

pub find_in_run-requires-clause-run_ends : goal.find_in_run-requires-clause-run_ends
find_in_run-requires-clause-run_ends g c =
    run_ends c.args.image.now c.loop-index.index (record { at = c.run-at.result.0; bytes = c.run-at.result.1.now }) c.runs-index-end.ensures.maximal
    (omega arith) c.run-at.ensures

pub loop-index-preserved : goal.loop-index-preserved
loop-index-preserved g c =
    runs_then g.B.Bench.tells _ _ c.args.start c.args.region.now.base c.args.region.now.size c.args.image.now c.loop-index.index _ c.loop-index.invariant
    (omega arith)
    c.run-at.ensures _ c.in_ok-found.found c.in_ok-found.ensures.ok (sym c.is_some.ensures ∙ c.if-is_some.false) c.in_ok-found.ensures.bench
    (c.in_ok-found.ensures.cause.on_ok refl)

pub returns-then-is_some-clause-ok : goal.returns-then-is_some-clause-ok
returns-then-is_some-clause-ok g c =
    runs_differ g.B.Bench.tells _ _ c.args.start c.args.region.now.base c.args.region.now.size c.args.image.now c.loop-index.index _ c.loop-index.invariant
    (omega arith)
    c.run-at.ensures c.runs-index-end.ensures.maximal c.in_ok-found.found c.in_ok-found.ensures.ok (sym c.is_some.ensures ∙ c.if-is_some.true)

pub returns-clause-ok : goal.returns-clause-ok
returns-clause-ok g c =
    all_agree g.B.Bench.tells _ _ c.args.start c.args.region.now.base c.args.region.now.size c.args.image.now c.loop-index.index c.loop-index.invariant
    (omega arith)

pub returns-then-is_some-clause-bench : goal.returns-then-is_some-clause-bench
returns-then-is_some-clause-bench g c = only_reads_cells_then c.loop-index.invariant.bench c.in_ok-found.ensures.bench

pub returns-then-is_some-clause-cause : goal.returns-then-is_some-clause-cause
returns-then-is_some-clause-cause g c = uncaused c.in_ok-found.found _ _ (c.in_ok-found.ensures.cause.on_ok refl ∙ c.loop-index.invariant.faults)

pub returns-clause-cause : goal.returns-clause-cause
returns-clause-cause g c = uncaused None _ _ c.loop-index.invariant.faults

pub loop-index-init : goal.loop-index-init
loop-index-init g c =
    runs_here g.B.Bench.tells (g.B.Bench.state c.args.bench.now) c.args.start c.args.region.now.base c.args.region.now.size c.args.image.now

pub returns-in_err-found-clause-bench : goal.returns-in_err-found-clause-bench
returns-in_err-found-clause-bench g c = only_reads_cells_then c.loop-index.invariant.bench c.in_err-found.ensures.bench
