-- `find_in_regions`: its clauses `ok`, `bench` and `cause`, that its loop keeps its invariant, and what `find_in_region` requires.
use Rattle.std.proofs.lemmas.Grind.{common_steps}
use Rattle.std.proofs.Common.{◌∙◌, refl, sym, ap, subst, arith, List, None}
use Rattle.board_file.specs.declared.region.Region.{Region}
use Rattle.board_file.specs.Limits.{size_of}
use Rattle.flm_cli.specs.Steps.{FindsInImage}
use Rattle.flm_cli.proofs.DifferenceLemmas.{uncaused}
use Rattle.flm_cli.proofs.PlaceLemmas.{none_so_far, fits, regions_then, region_differs, all_regions}
use Rattle.readback.proofs.ReadbackLemmas.{only_reads_cells_then}
use Rattle.flm_cli.proofs.verify.find_in_regions.Goals as goal

pub find_in_region-requires-clause-fits : goal.find_in_region-requires-clause-fits
find_in_region-requires-clause-fits g c =
    let its = fits g.B.Bench.tells _ _ c.as_slice-regions.result.now c.args.image.now c.loop-region.region-index c.loop-region.start c.loop-region.invariant
    c.region-item.result c.loop-region-test.true c.region-item.is in
    omega (arith, its, ap size_of c.as_slice-regions.ensures, c.requires.cells, c.loop-region.invariant.bench.count)

pub find_in_region-requires-clause-idle : goal.find_in_region-requires-clause-idle
find_in_region-requires-clause-idle g c = λ told. c.loop-region.invariant.bench.operation told ∙ c.requires.idle told

pub loop-region-preserved : goal.loop-region-preserved
loop-region-preserved g c =
    regions_then g.B.Bench.tells _ _ c.as_slice-regions.result.now c.args.image.now c.loop-region.region-index c.loop-region.start c.loop-region.invariant
    c.region-item.result c.loop-region-test.true c.region-item.is
    c.in_ok-found.found c.in_ok-found.ensures.ok _ (sym c.is_some.ensures ∙ c.if-is_some.false) c.in_ok-found.ensures.bench
    (c.in_ok-found.ensures.cause.on_ok refl)

pub returns-then-is_some-clause-ok : goal.returns-then-is_some-clause-ok
returns-then-is_some-clause-ok g c =
    subst (λ (rs : List Region). FindsInImage g.B.Bench.tells (g.B.Bench.state c.args.bench.now).cells rs c.args.image.now c.in_ok-found.found)
    c.as_slice-regions.ensures
    (region_differs g.B.Bench.tells _ _ c.as_slice-regions.result.now c.args.image.now c.loop-region.region-index c.loop-region.start c.loop-region.invariant
    c.region-item.result c.loop-region-test.true c.region-item.is
    c.in_ok-found.found c.in_ok-found.ensures.ok (sym c.is_some.ensures ∙ c.if-is_some.true))

pub returns-clause-ok : goal.returns-clause-ok
returns-clause-ok g c =
    subst (λ (rs : List Region). FindsInImage g.B.Bench.tells (g.B.Bench.state c.args.bench.now).cells rs c.args.image.now None) c.as_slice-regions.ensures
    (all_regions g.B.Bench.tells _ _ c.as_slice-regions.result.now c.args.image.now c.loop-region.region-index c.loop-region.start c.loop-region.invariant
    c.loop-region-test.false)

pub overflow_add-start : goal.overflow_add-start
overflow_add-start g c = grind (arith, common_steps)

pub returns-then-is_some-clause-bench : goal.returns-then-is_some-clause-bench
returns-then-is_some-clause-bench g c = only_reads_cells_then c.loop-region.invariant.bench c.in_ok-found.ensures.bench

pub returns-then-is_some-clause-cause : goal.returns-then-is_some-clause-cause
returns-then-is_some-clause-cause g c = uncaused c.in_ok-found.found _ _ (c.in_ok-found.ensures.cause.on_ok refl ∙ c.loop-region.invariant.faults)

pub loop-region-init : goal.loop-region-init
loop-region-init g c = none_so_far g.B.Bench.tells (g.B.Bench.state c.args.bench.now) c.as_slice-regions.result.now c.args.image.now

pub returns-in_err-found-clause-bench : goal.returns-in_err-found-clause-bench
returns-in_err-found-clause-bench g c = only_reads_cells_then c.loop-region.invariant.bench c.in_err-found.ensures.bench

pub returns-clause-cause : goal.returns-clause-cause
returns-clause-cause g c = uncaused None _ _ c.loop-region.invariant.faults
