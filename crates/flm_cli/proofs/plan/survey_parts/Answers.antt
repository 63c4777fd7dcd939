-- `survey_parts`: its clauses `plans`, `reads` and `cause`, that its loop keeps its invariant, and what `index` and `survey_cells` require.
use Rattle.std.proofs.Common.{◌<◌, get_or, length, ap, refl, arith}
use Rattle.readback.proofs.ReadbackLemmas.{only_reads_cells_then}
use Rattle.flash_session.specs.declared.region_plan.RegionPlan.{RegionPlan}
use Rattle.flm_cli.proofs.DifferenceLemmas.{uncaused}
use Rattle.flm_cli.proofs.PlanLemmas.{many_parts, surveyed_none, surveyed_more, one_of, surveyed_all}
use Rattle.flm_cli.proofs.plan.survey_parts.Goals as goal

pub loop-index-init : goal.loop-index-init
loop-index-init g c = surveyed_none g.B.Bench.tells c.args.wanted.now.board.weights c.args.wanted.now.image c.args.wanted.now.algorithms.items
    (g.B.Bench.state c.args.bench.now) c.args.parts.now c.requires.parts

pub index-algorithm-requires : goal.index-algorithm-requires
index-algorithm-requires g c =
    omega (
      arith,
      many_parts c.args.wanted.now.algorithms.items 0 c.loop-index.parts c.loop-index.invariant.are,
      c.loop-index.auto.parts,
      c.loop-index-test.true,
    )

pub survey_cells-requires-clause-part : goal.survey_cells-requires-clause-part
survey_cells-requires-clause-part g c =
    let wanted = c.args.wanted.now in
    let l = c.loop-index in
    let s = g.B.Bench.state c.args.bench.now in
    let now = g.B.Bench.state l.bench in
    let old = get_or l.parts l.index c.index-parts-index.result in
    let less : l.index < length l.parts = omega (arith, l.auto.parts, c.loop-index-test.true) in
    (one_of g.B.Bench.tells wanted.board.weights wanted.image wanted.algorithms.items s now now l.parts l.index c.index-algorithm.result.now old old l.invariant
    less c.index-algorithm.ensures
    (ap (λ (p : RegionPlan). get_or l.parts l.index p) c.index-parts-index.is)).is

pub survey_cells-requires-clause-inside : goal.survey_cells-requires-clause-inside
survey_cells-requires-clause-inside g c =
    let wanted = c.args.wanted.now in
    let l = c.loop-index in
    let s = g.B.Bench.state c.args.bench.now in
    let now = g.B.Bench.state l.bench in
    let old = get_or l.parts l.index c.index-parts-index.result in
    let less : l.index < length l.parts = omega (arith, l.auto.parts, c.loop-index-test.true) in
    let one = one_of g.B.Bench.tells wanted.board.weights wanted.image wanted.algorithms.items s now now l.parts l.index c.index-algorithm.result.now old old
    l.invariant less c.index-algorithm.ensures
    (ap (λ (p : RegionPlan). get_or l.parts l.index p) c.index-parts-index.is) in
    omega (arith, one.inside, l.invariant.reads.count, c.requires.cells)

pub loop-index-preserved : goal.loop-index-preserved
loop-index-preserved g c =
    let wanted = c.args.wanted.now in
    let l = c.loop-index in
    let e = c.in_ok-survey_cells.ensures in
    let old = get_or l.parts l.index c.index-parts-index.result in
    let less : l.index < length l.parts = omega (arith, l.auto.parts, c.loop-index-test.true) in
    surveyed_more g.B.Bench.tells wanted.board.weights wanted.image wanted.algorithms.items (g.B.Bench.state c.args.bench.now) (g.B.Bench.state l.bench)
    (g.B.Bench.state c.survey_cells.new.bench)
    l.parts l.index c.index-algorithm.result.now old c.survey_cells.new.part l.invariant less c.index-algorithm.ensures
    (ap (λ (p : RegionPlan). get_or l.parts l.index p) c.index-parts-index.is)
    e.part e.place e.plan e.reads (e.cause.on_ok refl)

pub returns-clause-plans : goal.returns-clause-plans
returns-clause-plans g c =
    let wanted = c.args.wanted.now in
    let l = c.loop-index in
    surveyed_all g.B.Bench.tells wanted.board.weights wanted.image wanted.algorithms.items (g.B.Bench.state c.args.bench.now) (g.B.Bench.state l.bench) l.parts
    l.index l.invariant
    (omega (arith, l.auto.parts, c.loop-index-test.false))

pub returns-in_err-survey_cells-clause-reads : goal.returns-in_err-survey_cells-clause-reads
returns-in_err-survey_cells-clause-reads g c = only_reads_cells_then c.loop-index.invariant.reads c.in_err-survey_cells.ensures.reads

pub returns-clause-cause : goal.returns-clause-cause
returns-clause-cause g c = uncaused tt _ _ c.loop-index.invariant.faults
