-- `build`: its clauses `geometry`, `lawful` and `fit`, and what 2 calls ask for.
use Rattle.std.proofs.Common.{◌+◌, arith}
use Rattle.page_geometry.proofs.BuiltLemmas.{built_none, built_more, built_small, built_table, built_layout, step_some}
use Rattle.flm_descriptor.specs.Shape.{sectors_of}
use Rattle.page_geometry.proofs.GeometryLemmas.{pages_fit}
use Rattle.page_geometry.proofs.geometry.build.Goals as goal

pub loop-index-init : goal.loop-index-init
loop-index-init c = rw (c.new-runs.ensures.items, c.new-starts.ensures.items, c.new-first_sectors.ensures.items, c.new-first_pages.ensures.items)
    (built_none c.args.size c.args.page c.args.items.now)

pub count_pieces-sectors-requires : goal.count_pieces-sectors-requires
count_pieces-sectors-requires c = step_some c.args.size c.args.page c.args.items.now c.requires c.loop-index.index c.loop-index-test.true

pub count_pages-pages-requires-clause-step_some : goal.count_pages-pages-requires-clause-step_some
count_pages-pages-requires-clause-step_some c = step_some c.args.size c.args.page c.args.items.now c.requires c.loop-index.index c.loop-index-test.true

pub overflow_add-sectors : goal.overflow_add-sectors
overflow_add-sectors c = let x = built_small c.args.size c.args.page c.args.items.now c.requires (c.loop-index.index + 1) _ _ _ _ _ _
    (omega (arith, c.loop-index-test.true)) (built_more c.args.size c.args.page c.args.items.now c.requires c.loop-index.index c.stop_of.result
    c.loop-index.runs.items c.loop-index.starts.items c.loop-index.first_sectors.items c.loop-index.first_pages.items c.loop-index.sectors c.loop-index.pages
    c.loop-index-test.true c.stop_of.ensures c.loop-index.invariant) in omega (arith, x.0, c.count_pieces-sectors.ensures)

pub count_pages-pages-requires-clause-few : goal.count_pages-pages-requires-clause-few
count_pages-pages-requires-clause-few c = let x = built_small c.args.size c.args.page c.args.items.now c.requires (c.loop-index.index + 1) _ _ _ _ _ _
    (omega (arith, c.loop-index-test.true)) (built_more c.args.size c.args.page c.args.items.now c.requires c.loop-index.index c.stop_of.result
    c.loop-index.runs.items c.loop-index.starts.items c.loop-index.first_sectors.items c.loop-index.first_pages.items c.loop-index.sectors c.loop-index.pages
    c.loop-index-test.true c.stop_of.ensures c.loop-index.invariant) in omega (arith, x.1)

pub overflow_add-pages : goal.overflow_add-pages
overflow_add-pages c = let x = built_small c.args.size c.args.page c.args.items.now c.requires (c.loop-index.index + 1) _ _ _ _ _ _
    (omega (arith, c.loop-index-test.true)) (built_more c.args.size c.args.page c.args.items.now c.requires c.loop-index.index c.stop_of.result
    c.loop-index.runs.items c.loop-index.starts.items c.loop-index.first_sectors.items c.loop-index.first_pages.items c.loop-index.sectors c.loop-index.pages
    c.loop-index-test.true c.stop_of.ensures c.loop-index.invariant) in omega (arith, x.1, c.count_pages-pages.ensures)

pub loop-index-preserved : goal.loop-index-preserved
loop-index-preserved c =
    rw (
      c.in_ok-push.ensures.items,
      c.in_ok-push-2.ensures.items,
      c.in_ok-push-3.ensures.items,
      c.in_ok-push-4.ensures.items,
      c.count_pieces-sectors.ensures,
      c.count_pages-pages.ensures,
    ) (built_more c.args.size c.args.page c.args.items.now c.requires c.loop-index.index c.stop_of.result c.loop-index.runs.items
    c.loop-index.starts.items c.loop-index.first_sectors.items c.loop-index.first_pages.items c.loop-index.sectors c.loop-index.pages c.loop-index-test.true
    c.stop_of.ensures c.loop-index.invariant)

pub invariant_of-result : goal.invariant_of-result
invariant_of-result c =
    built_table c.args.size c.args.page c.args.items.now c.requires c.loop-index.index c.loop-index.runs.items c.loop-index.starts.items
    c.loop-index.first_sectors.items c.loop-index.first_pages.items c.loop-index.sectors c.loop-index.pages (omega (arith, c.loop-index-test.false))
    c.loop-index.invariant

pub returns-clause-geometry : goal.returns-clause-geometry
returns-clause-geometry c = built_layout c.args.size c.args.page c.args.items.now c.requires c.loop-index.index c.loop-index.runs.items
    c.loop-index.starts.items c.loop-index.first_sectors.items c.loop-index.first_pages.items c.loop-index.sectors c.loop-index.pages
    (omega (arith, c.loop-index-test.false)) c.loop-index.invariant

pub returns-clause-lawful : goal.returns-clause-lawful
returns-clause-lawful c = (invariant_of-result c).good

pub returns-clause-fit : goal.returns-clause-fit
returns-clause-fit c = pages_fit c.args.page (sectors_of c.loop-index.runs.items)
