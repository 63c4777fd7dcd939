-- `count_sectors`: the value that it answers, that its loop keeps its invariant, and what `count_pieces` requires.
use Rattle.std.proofs.Common.{◌≡◌, ℕ, ◌<◌, get_or, ap, sym, ◌∙◌, arith, length}
use Rattle.flm_descriptor.specs.declared.geometry.Run.{Run}
use Rattle.flm_descriptor.specs.Shape.{runs_of, pieces}
use Rattle.flm_descriptor.specs.Shape.{run_at}
use Rattle.flm_descriptor.proofs.RunLemmas.{sectors_next, sectors_none, sectors_all}
use Rattle.flm_descriptor.proofs.ItemLemmas.{runs_at, length-runs, no_item}
use Rattle.flm_descriptor.proofs.ItemLemmas.{size_is}
use Rattle.flm_descriptor.proofs.geometry.count_sectors.Goals as goal

pub loop-index-init : goal.loop-index-init
loop-index-init c = record { total = sym (sectors_none (runs_of c.args.size c.args.items.now)); small = omega arith }

pub count_pieces-requires : goal.count_pieces-requires
count_pieces-requires c = omega (arith, size_is c.args.items.now c.loop-index.index, c.requires.steps c.loop-index.index c.loop-index-test.true)

pub loop-index-preserved : goal.loop-index-preserved
loop-index-preserved c =
    let k : ℕ = c.loop-index.index in
    let here : k < length (runs_of c.args.size c.args.items.now) = omega (arith, length-runs c.args.size c.args.items.now, c.loop-index-test.true) in
    let next = sectors_next 1 (runs_of c.args.size c.args.items.now) k here in
    let run = runs_at c.args.size c.args.items.now k c.loop-index-test.true in
    let same : c.count_pieces.result ≡ pieces (run_at (runs_of c.args.size c.args.items.now) k).step (run_at (runs_of c.args.size c.args.items.now) k).start
    (run_at (runs_of c.args.size c.args.items.now) k).stop =
    c.count_pieces.ensures ∙ ap (λ (s : ℕ). pieces (get_or c.args.items.now k no_item).size (get_or c.args.items.now k no_item).offset s) c.stop_of-stop.ensures
    ∙ sym (ap (λ (r : Run). pieces r.step r.start r.stop) run) in
    record { total = omega (arith, next, same, c.loop-index.invariant.total, c.from-total.ensures); small = omega arith }

pub returns : goal.returns
returns c = c.loop-index.invariant.total ∙ sectors_all (runs_of c.args.size c.args.items.now) c.loop-index.index
    (omega (arith, length-runs c.args.size c.args.items.now, c.loop-index-test.false))
