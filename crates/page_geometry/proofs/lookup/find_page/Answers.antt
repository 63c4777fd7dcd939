-- `find_page`: its clauses `sector`, `page` and `number`, what `last_at_most` requires, `nonzero_div-result`, and `nonzero_rem-result`.
use Rattle.std.proofs.Common.{arith}
use Rattle.page_geometry.proofs.FindLemmas.{pages_rising, pages_first, page_parts, each_some}
use Rattle.page_geometry.proofs.lookup.find_page.Goals as goal

pub last_at_most-at-requires-clause-rising : goal.last_at_most-at-requires-clause-rising
last_at_most-at-requires-clause-rising c = pages_rising c.args.page c.args.runs.now c.args.firsts.now c.requires.table

pub last_at_most-at-requires-clause-first : goal.last_at_most-at-requires-clause-first
last_at_most-at-requires-clause-first c = pages_first c.args.page c.args.runs.now c.args.firsts.now c.requires.table c.args.index

pub nonzero_div-result : goal.nonzero_div-result
nonzero_div-result c = omega (
  arith,
  c.count_pieces-each.ensures,
  each_some c.args.page c.args.runs.now c.args.firsts.now c.requires.table c.last_at_most-at.result
      (omega (arith, c.last_at_most-at.ensures.within, c.requires.table.long)),
)

pub nonzero_rem-result : goal.nonzero_rem-result
nonzero_rem-result c = omega (
  arith,
  c.count_pieces-each.ensures,
  each_some c.args.page c.args.runs.now c.args.firsts.now c.requires.table c.last_at_most-at.result
      (omega (arith, c.last_at_most-at.ensures.within, c.requires.table.long)),
)

pub returns-clause-sector : goal.returns-clause-sector
returns-clause-sector c =
    (page_parts c.args.page c.args.runs.now c.args.firsts.now c.requires.table c.last_at_most-at.result c.args.index c.count_pieces-each.result
    c.last_at_most-at.ensures.within c.last_at_most-at.ensures.at_most c.last_at_most-at.ensures.next c.requires.index c.count_pieces-each.ensures).0

pub returns-clause-page : goal.returns-clause-page
returns-clause-page c =
    (page_parts c.args.page c.args.runs.now c.args.firsts.now c.requires.table c.last_at_most-at.result c.args.index c.count_pieces-each.result
    c.last_at_most-at.ensures.within c.last_at_most-at.ensures.at_most c.last_at_most-at.ensures.next c.requires.index c.count_pieces-each.ensures).1

pub returns-clause-number : goal.returns-clause-number
returns-clause-number c =
    (page_parts c.args.page c.args.runs.now c.args.firsts.now c.requires.table c.last_at_most-at.result c.args.index c.count_pieces-each.result
    c.last_at_most-at.ensures.within c.last_at_most-at.ensures.at_most c.last_at_most-at.ensures.next c.requires.index c.count_pieces-each.ensures).2
