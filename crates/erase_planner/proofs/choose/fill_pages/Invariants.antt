-- `fill_pages`: what holds at each turn of its loop.
use Rattle.std.proofs.Common.{◌≡◌, ◌≤◌, length, vec_capacity}
use Rattle.page_geometry.specs.Cells.{count_below}
use Rattle.erase_planner.specs.Plans.{tests}
use Rattle.erase_planner.specs.Marks.{programs_by}
use Rattle.erase_planner.proofs.choose.fill_pages.Given as goal

abbrev pub invariant-loop-page : goal.invariant-loop-page
invariant-loop-page l = record {
  set : l.pages.items ≡ tests l.page (programs_by l.geometry l.marks l.sectors);
  room : length l.geometry.pages ≤ vec_capacity l.pages;
  spare : vec_capacity l.fn.pages ≤ vec_capacity l.pages;
  count : l.count ≡ count_below l.page (programs_by l.geometry l.marks l.sectors);
  few : l.count ≤ l.page;
}
