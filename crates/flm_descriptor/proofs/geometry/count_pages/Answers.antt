-- `count_pages`: the value that it answers, that its loop keeps its invariant, and what `run_pages` requires.
use Rattle.std.proofs.Common.{◌≡◌, ℕ, ◌+◌, ◌<◌, get_or, ap, sym, ◌∙◌, arith, length, List}
use Rattle.flm_descriptor.specs.declared.geometry.Run.{Run}
use Rattle.flm_descriptor.specs.Shape.{runs_of, pieces, run_at, cut, pages_of}
use Rattle.flm_descriptor.proofs.RunLemmas.{pages_next, pages_none, pages_all, sectors_next, sectors_rise, sectors_all}
use Rattle.flm_descriptor.proofs.ItemLemmas.{runs_at, length-runs, no_item, size_is}
use Rattle.flm_descriptor.proofs.geometry.count_pages.Goals as goal

pub loop-index-init : goal.loop-index-init
loop-index-init c = record { total = sym (pages_none c.args.page (runs_of c.args.size c.args.items.now)); small = omega arith }

pub run_pages-total-requires-clause-step : goal.run_pages-total-requires-clause-step
run_pages-total-requires-clause-step c =
    omega (arith, size_is c.args.items.now c.loop-index.index, c.requires.steps c.loop-index.index c.loop-index-test.true)

pub run_pages-total-requires-clause-few : goal.run_pages-total-requires-clause-few
run_pages-total-requires-clause-few c =
    let k : ℕ = c.loop-index.index in
    let items = c.args.items.now in
    let runs : List Run = runs_of c.args.size items in
    let here : k < length runs = omega (arith, length-runs c.args.size items, c.loop-index-test.true) in
    let next = sectors_next 1 runs k here in
    let rise = sectors_rise runs (k + 1) (length runs) (omega (arith, here)) in
    let all = sectors_all runs (length runs) (omega arith) in
    let run = runs_at c.args.size items k c.loop-index-test.true in
    let same : pieces (get_or items k no_item).size (get_or items k no_item).offset c.stop_of.result ≡ pieces (run_at runs k).step (run_at runs k).start
    (run_at runs k).stop =
    ap (λ (s : ℕ). pieces (get_or items k no_item).size (get_or items k no_item).offset s) c.stop_of.ensures ∙
    sym (ap (λ (r : Run). pieces r.step r.start r.stop) run) in
    omega (arith, next, rise, all, same, c.requires.sectors)

pub loop-index-preserved : goal.loop-index-preserved
loop-index-preserved c =
    let k : ℕ = c.loop-index.index in
    let items = c.args.items.now in
    let runs : List Run = runs_of c.args.size items in
    let here : k < length runs = omega (arith, length-runs c.args.size items, c.loop-index-test.true) in
    let next = pages_next c.args.page runs k here in
    let run = runs_at c.args.size items k c.loop-index-test.true in
    let same : c.run_pages-total.result ≡ length (pages_of c.args.page (cut (run_at runs k).step (run_at runs k).start (run_at runs k).stop)) =
    c.run_pages-total.ensures.pages
    ∙ ap (λ (s : ℕ). length (pages_of c.args.page (cut (get_or items k no_item).size (get_or items k no_item).offset s))) c.stop_of.ensures
    ∙ sym (ap (λ (r : Run). length (pages_of c.args.page (cut r.step r.start r.stop))) run) in
    record { total = omega (arith, next, same, c.loop-index.invariant.total); small = omega arith }

pub returns : goal.returns
returns c =
    c.loop-index.invariant.total
    ∙ pages_all c.args.page (runs_of c.args.size c.args.items.now) c.loop-index.index
    (omega (arith, length-runs c.args.size c.args.items.now, c.loop-index-test.false))
