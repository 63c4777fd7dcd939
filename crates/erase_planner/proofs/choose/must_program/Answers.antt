-- `must_program`: the value that it answers.
use Rattle.std.proofs.Common.{ℕ, ◌<◌, length, arith}
use Rattle.page_geometry.specs.Geometry.{In, Geometry, IsGeometry, IsAt}
use Rattle.flm_descriptor.specs.Shape.{range_at}
use Rattle.erase_planner.proofs.FillLemmas.{programs_yes, programs_no}
use Rattle.erase_planner.proofs.choose.must_program.Goals as goal

first_in : (l : Geometry) → IsGeometry l → (p place len : ℕ) → p < length l.pages → IsAt (range_at l.pages p) place len → In place (range_at l.pages p)
first_in l good p place len h at = let some = good.pages_part.some p h in (omega (arith, at.0), omega (arith, at.0, some))

pub returns-then-sectors-sector : goal.returns-then-sectors-sector
returns-then-sectors-sector c =
    let inside = first_in c.args.geometry.now c.pages-pages.ensures.lawful c.args.page c.page-place.result.0 c.page-place.result.1 c.requires.page
    c.page-place.ensures.range in
    programs_yes c.args.geometry.now c.pages-pages.ensures.lawful c.args.sectors.now c.args.page c.in-Some.sector c.page-place.result.0 c.requires.page
    c.in-Some.ensures.0 inside c.in-Some.ensures.1 c.args.marks.now c.if-sectors-sector.true

pub returns-else-sectors-sector : goal.returns-else-sectors-sector
returns-else-sectors-sector c =
    let inside = first_in c.args.geometry.now c.pages-pages.ensures.lawful c.args.page c.page-place.result.0 c.page-place.result.1 c.requires.page
    c.page-place.ensures.range in
    programs_no c.args.geometry.now c.pages-pages.ensures.lawful c.args.sectors.now c.args.page c.in-Some.sector c.page-place.result.0 c.requires.page
    c.in-Some.ensures.0 inside c.in-Some.ensures.1 c.args.marks.now c.if-sectors-sector.false
