-- `sector_pages`: its contract, `ArePagesOf`, and that no number overflows.
use Rattle.std.proofs.Common.{◌≡◌, ℕ, arith}
use Rattle.flm_descriptor.specs.Shape.{pieces}
use Rattle.page_geometry.proofs.NumberLemmas.{sector_pages_are}
use Rattle.page_geometry.proofs.lookup.sector_pages.Goals as goal

same_pieces : (page from stop here there : ℕ) → from ≡ here → stop ≡ there → pieces page from stop ≡ pieces page here there
same_pieces page from stop here there begins ends = cc

pub overflow_mul-result : goal.overflow_mul-result
overflow_mul-result c =
    let counted = same_pieces c.args.page _ _ _ _ c.piece_at-from.ensures.place c.piece_at-from.ensures.end in
    let x = (sector_pages_are c.args.size c.args.page c.args.runs.now c.args.first_sectors.now c.args.first_pages.now c.requires.sectors
    c.requires.pages c.requires.good c.find_sector-at.result.0 c.find_sector-at.result.1 c.args.sector c.count_pieces-each.result
    (pieces c.args.page c.piece_at-from.result.0 c.piece_at-from.result.1) c.find_sector-at.ensures.run c.find_sector-at.ensures.sector
    c.find_sector-at.ensures.number c.count_pieces-each.ensures counted).in_all in
    omega (arith, x, c.requires.few)

pub overflow_add-result : goal.overflow_add-result
overflow_add-result c =
    let counted = same_pieces c.args.page _ _ _ _ c.piece_at-from.ensures.place c.piece_at-from.ensures.end in
    let x = (sector_pages_are c.args.size c.args.page c.args.runs.now c.args.first_sectors.now c.args.first_pages.now c.requires.sectors
    c.requires.pages c.requires.good c.find_sector-at.result.0 c.find_sector-at.result.1 c.args.sector c.count_pieces-each.result
    (pieces c.args.page c.piece_at-from.result.0 c.piece_at-from.result.1) c.find_sector-at.ensures.run c.find_sector-at.ensures.sector
    c.find_sector-at.ensures.number c.count_pieces-each.ensures counted).in_all in
    omega (arith, x, c.requires.few)

pub returns : goal.returns
returns c =
    let counted = same_pieces c.args.page _ _ _ _ c.piece_at-from.ensures.place c.piece_at-from.ensures.end in
    rw c.count_pieces.ensures (sector_pages_are c.args.size c.args.page c.args.runs.now c.args.first_sectors.now c.args.first_pages.now
    c.requires.sectors c.requires.pages c.requires.good c.find_sector-at.result.0 c.find_sector-at.result.1 c.args.sector c.count_pieces-each.result
    (pieces c.args.page c.piece_at-from.result.0 c.piece_at-from.result.1) c.find_sector-at.ensures.run c.find_sector-at.ensures.sector
    c.find_sector-at.ensures.number c.count_pieces-each.ensures counted)
