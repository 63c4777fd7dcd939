-- `run_pages`: that it keeps its contract, and that no number overflows.
use Rattle.std.proofs.Common.{◌≡◌, ◌-◌, ◌<◌, arith}
use Rattle.std.proofs.lemmas.Grind.{common_steps}
use Rattle.flm_descriptor.specs.Shape.{pieces}
use Rattle.flm_descriptor.proofs.CutLemmas.{pieces_below}
use Rattle.flm_descriptor.proofs.RunLemmas.{run_counted, run_no_pages}
use Rattle.flm_descriptor.proofs.geometry.run_pages.Goals as goal

pub returns-then-count-eq0-clause-pages : goal.returns-then-count-eq0-clause-pages
returns-then-count-eq0-clause-pages c =
    let e : 0 ≡ pieces c.args.run.step c.args.run.start c.args.run.stop = omega (arith, c.count_pieces-count.ensures) in
    run_no_pages c.args.page c.args.run.step c.args.run.start c.args.run.stop c.requires.page c.requires.step e

pub overflow_mul-last : goal.overflow_mul-last
overflow_mul-last c =
    let e = c.count_pieces-count.ensures in
    let h : c.count_pieces-count.result - 1 < pieces c.args.run.step c.args.run.start c.args.run.stop = omega (arith, e) in
    let below = pieces_below _ _ _ _ c.requires.step h in omega (arith, below)

pub overflow_add-last : goal.overflow_add-last
overflow_add-last c =
    let e = c.count_pieces-count.ensures in
    let h : c.count_pieces-count.result - 1 < pieces c.args.run.step c.args.run.start c.args.run.stop = omega (arith, e) in
    let below = pieces_below _ _ _ _ c.requires.step h in omega (arith, below)

pub returns-clause-pages : goal.returns-clause-pages
returns-clause-pages c =
    let all = run_counted c.args.page c.args.run.step c.args.run.start c.args.run.stop c.requires.page c.requires.step c.count_pieces-count.result
    c.count_pieces-each.result c.count_pieces.result c.if-count-eq0.false c.count_pieces-count.ensures c.count_pieces-each.ensures c.count_pieces.ensures in
    rw (c.from.ensures, c.from-2.ensures, c.from-3.ensures) all

pub returns-clause-small : goal.returns-clause-small
returns-clause-small c = grind (arith, common_steps)
