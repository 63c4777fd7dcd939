-- `sector_range`: its contract, `IsAt`.
use Rattle.std.proofs.Common.{◌-◌, subst, sym, arith, ◌∙◌, ap}
use Rattle.flm_descriptor.specs.Shape.{Range, sectors_of, range_at}
use Rattle.page_geometry.specs.Geometry.{IsAt}
use Rattle.flm_descriptor.proofs.RunLemmas.{sector_here}
use Rattle.page_geometry.proofs.lookup.sector_range.Goals as goal

pub returns : goal.returns
returns c =
    let x = sector_here 1 c.args.runs.now c.find_sector-at.result.0 c.find_sector-at.ensures.run c.find_sector-at.result.1 c.find_sector-at.ensures.sector in
    let same = sym (ap (range_at (sectors_of c.args.runs.now)) c.find_sector-at.ensures.number) ∙ x.1 in
    subst (λ (r : Range). IsAt r c.piece_at-place.result.0 (c.piece_at-place.result.1 - c.piece_at-place.result.0)) (sym same)
    (c.piece_at-place.ensures.place, omega (arith, c.piece_at-place.ensures.order, c.piece_at-place.ensures.end))
