-- `count_pages`: the value that it answers, and that no number overflows.
use Rattle.std.proofs.Common.{◌≡◌, ◌-◌, ◌<◌, arith}
use Rattle.flm_descriptor.specs.Shape.{pieces}
use Rattle.flm_descriptor.proofs.CutLemmas.{pieces_below}
use Rattle.flm_descriptor.proofs.RunLemmas.{run_counted, run_counted_less, run_no_pages}
use Rattle.page_geometry.proofs.pieces.count_pages.Goals as goal

pub returns-then-count-eq0 : goal.returns-then-count-eq0
returns-then-count-eq0 c =
    let e : 0 ≡ pieces c.args.run.step c.args.run.start c.args.run.stop = omega (arith, c.count_pieces-count.ensures) in
    run_no_pages c.args.page c.args.run.step c.args.run.start c.args.run.stop c.requires.page_some c.requires.step_some e

pub overflow_mul-last : goal.overflow_mul-last
overflow_mul-last c =
    let e = c.count_pieces-count.ensures in
    let h : c.count_pieces-count.result - 1 < pieces c.args.run.step c.args.run.start c.args.run.stop = omega (arith, e) in
    let below = pieces_below _ _ _ _ c.requires.step_some h in omega (arith, below)

pub overflow_add-last : goal.overflow_add-last
overflow_add-last c =
    let e = c.count_pieces-count.ensures in
    let h : c.count_pieces-count.result - 1 < pieces c.args.run.step c.args.run.start c.args.run.stop = omega (arith, e) in
    let below = pieces_below _ _ _ _ c.requires.step_some h in omega (arith, below)

pub overflow_mul-result : goal.overflow_mul-result
overflow_mul-result c =
    let less = run_counted_less c.args.page c.args.run.step c.args.run.start c.args.run.stop c.requires.page_some c.requires.step_some
    c.count_pieces-count.result c.count_pieces-each.result c.if-count-eq0.false c.count_pieces-count.ensures c.count_pieces-each.ensures in
    omega (arith, less, c.requires.few)

pub overflow_add-result : goal.overflow_add-result
overflow_add-result c =
    let same = run_counted c.args.page c.args.run.step c.args.run.start c.args.run.stop c.requires.page_some c.requires.step_some c.count_pieces-count.result
    c.count_pieces-each.result c.count_pieces.result c.if-count-eq0.false c.count_pieces-count.ensures c.count_pieces-each.ensures c.count_pieces.ensures in
    omega (arith, same, c.requires.few)

pub returns : goal.returns
returns c =
    run_counted c.args.page c.args.run.step c.args.run.start c.args.run.stop c.requires.page_some c.requires.step_some c.count_pieces-count.result
    c.count_pieces-each.result c.count_pieces.result c.if-count-eq0.false c.count_pieces-count.ensures c.count_pieces-each.ensures c.count_pieces.ensures
