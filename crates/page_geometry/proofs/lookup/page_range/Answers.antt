-- `page_range`: its contract, `IsAt`, and what `piece_at` requires.
use Rattle.std.proofs.Common.{◌-◌, subst, sym, arith}
use Rattle.flm_descriptor.specs.Shape.{Range}
use Rattle.page_geometry.specs.Geometry.{IsAt}
use Rattle.page_geometry.proofs.NumberLemmas.{number_range}
use Rattle.page_geometry.proofs.lookup.page_range.Goals as goal

pub piece_at-place-requires-clause-index_below : goal.piece_at-place-requires-clause-index_below
piece_at-place-requires-clause-index_below c = (number_range c.args.page c.args.runs.now c.args.firsts.now c.requires.table c.find_page-at.result.0
    c.find_page-at.result.1 c.find_page-at.result.2 c.piece_at-from.result.0 c.piece_at-from.result.1 c.args.index c.find_page-at.ensures.run
    c.find_page-at.ensures.sector c.find_page-at.ensures.page c.piece_at-from.ensures.place c.piece_at-from.ensures.end c.find_page-at.ensures.number).0

pub returns : goal.returns
returns c =
    subst (λ (r : Range). IsAt r c.piece_at-place.result.0 (c.piece_at-place.result.1 - c.piece_at-place.result.0))
    (sym (number_range c.args.page c.args.runs.now c.args.firsts.now c.requires.table c.find_page-at.result.0 c.find_page-at.result.1
    c.find_page-at.result.2 c.piece_at-from.result.0 c.piece_at-from.result.1 c.args.index c.find_page-at.ensures.run c.find_page-at.ensures.sector
    c.find_page-at.ensures.page c.piece_at-from.ensures.place c.piece_at-from.ensures.end c.find_page-at.ensures.number).1)
    (c.piece_at-place.ensures.place, omega (arith, c.piece_at-place.ensures.order, c.piece_at-place.ensures.end))
