-- `page_number`: its clauses `number` and `inside`, and that no number overflows.
use Rattle.std.proofs.Common.{arith}
use Rattle.page_geometry.proofs.NumberLemmas.{number_place}
use Rattle.page_geometry.proofs.lookup.page_number.Goals as goal

pub overflow_mul-result : goal.overflow_mul-result
overflow_mul-result c = let x = number_place c.args.page c.args.runs.now c.args.firsts.now c.requires.table c.find_place-at.result.0 c.find_place-at.result.1
    c.count_pieces-each.result c.args.place c.piece_at-from.result.0 c.find_place-at.ensures.run c.count_pieces-each.ensures c.find_place-at.ensures.sector
    c.find_place-at.ensures.inside c.piece_at-from.ensures.place in omega (arith, x.0, c.requires.few)

pub overflow_add-result : goal.overflow_add-result
overflow_add-result c = let x = number_place c.args.page c.args.runs.now c.args.firsts.now c.requires.table c.find_place-at.result.0 c.find_place-at.result.1
    c.count_pieces-each.result c.args.place c.piece_at-from.result.0 c.find_place-at.ensures.run c.count_pieces-each.ensures c.find_place-at.ensures.sector
    c.find_place-at.ensures.inside c.piece_at-from.ensures.place in omega (arith, x.0, c.requires.few)

pub overflow_add-result-2 : goal.overflow_add-result-2
overflow_add-result-2 c = let x = number_place c.args.page c.args.runs.now c.args.firsts.now c.requires.table c.find_place-at.result.0 c.find_place-at.result.1
    c.count_pieces-each.result c.args.place c.piece_at-from.result.0 c.find_place-at.ensures.run c.count_pieces-each.ensures c.find_place-at.ensures.sector
    c.find_place-at.ensures.inside c.piece_at-from.ensures.place in omega (arith, x.0, c.requires.few)

pub returns-clause-number : goal.returns-clause-number
returns-clause-number c = (number_place c.args.page c.args.runs.now c.args.firsts.now c.requires.table c.find_place-at.result.0 c.find_place-at.result.1
    c.count_pieces-each.result c.args.place c.piece_at-from.result.0 c.find_place-at.ensures.run c.count_pieces-each.ensures c.find_place-at.ensures.sector
    c.find_place-at.ensures.inside c.piece_at-from.ensures.place).0

pub returns-clause-inside : goal.returns-clause-inside
returns-clause-inside c = (number_place c.args.page c.args.runs.now c.args.firsts.now c.requires.table c.find_place-at.result.0 c.find_place-at.result.1
    c.count_pieces-each.result c.args.place c.piece_at-from.result.0 c.find_place-at.ensures.run c.count_pieces-each.ensures c.find_place-at.ensures.sector
    c.find_place-at.ensures.inside c.piece_at-from.ensures.place).1
