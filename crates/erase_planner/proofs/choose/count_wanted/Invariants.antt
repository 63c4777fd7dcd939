-- `count_wanted`: what holds at each turn of its loop.
use Rattle.std.proofs.Common.{◌≡◌, ◌≤◌}
use Rattle.page_geometry.specs.Cells.{count_below}
use Rattle.erase_planner.specs.Marks.{wanted_by}
use Rattle.erase_planner.proofs.choose.count_wanted.Given as goal

abbrev pub invariant-loop-page : goal.invariant-loop-page
invariant-loop-page l = record {
  count : l.count ≡ count_below l.page (wanted_by l.marks);
  few : l.count ≤ l.page;
}
