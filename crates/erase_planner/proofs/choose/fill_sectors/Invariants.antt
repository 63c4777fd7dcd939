-- `fill_sectors`: what holds at each turn of its loop.
use Rattle.std.proofs.Common.{◌≡◌, ◌≤◌, length, vec_capacity}
use Rattle.page_geometry.specs.Cells.{count_below}
use Rattle.erase_planner.specs.Plans.{tests}
use Rattle.erase_planner.specs.Marks.{erases_by}
use Rattle.erase_planner.proofs.choose.fill_sectors.Given as goal

abbrev pub invariant-loop-sector : goal.invariant-loop-sector
invariant-loop-sector l = record {
  set : l.sectors.items ≡ tests l.sector (erases_by l.geometry l.marks);
  room : length l.geometry.sectors ≤ vec_capacity l.sectors;
  spare : vec_capacity l.fn.sectors ≤ vec_capacity l.sectors;
  count : l.count ≡ count_below l.sector (erases_by l.geometry l.marks);
  few : l.count ≤ l.sector;
}
