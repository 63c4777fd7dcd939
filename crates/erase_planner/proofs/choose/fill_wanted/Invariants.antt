-- `fill_wanted`: what holds at each turn of its loop.
use Rattle.std.proofs.Common.{◌≡◌, ◌≤◌, length, vec_capacity}
use Rattle.erase_planner.specs.Plans.{tests}
use Rattle.erase_planner.specs.Marks.{wanted_by}
use Rattle.erase_planner.proofs.choose.fill_wanted.Given as goal

abbrev pub invariant-loop-page : goal.invariant-loop-page
invariant-loop-page l = record {
  set : l.pages.items ≡ tests l.page (wanted_by l.marks);
  room : length l.marks ≤ vec_capacity l.pages;
  spare : vec_capacity l.fn.pages ≤ vec_capacity l.pages;
}
