-- `start_marks`: what holds at each turn of its loop.
use Rattle.std.proofs.Common.{◌≡◌, ℕ, ◌≤◌, ◌<◌, length, vec_capacity, []}
use Rattle.erase_planner.specs.Marks.{mark_at}
use Rattle.erase_planner.proofs.marks.start_marks.Given as goal

abbrev pub invariant-loop-page : goal.invariant-loop-page
invariant-loop-page l = record {
  long : length l.marks.items ≡ l._page;
  blank : (p : ℕ) → p < l._page → mark_at l.marks.items p ≡ mark_at [] p;
  room : l.count ≤ vec_capacity l.marks;
  spare : vec_capacity l.fn.marks ≤ vec_capacity l.marks;
}
