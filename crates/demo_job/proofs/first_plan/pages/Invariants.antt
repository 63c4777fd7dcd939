-- `pages`: what holds at each turn of its loop.
use Rattle.std.proofs.Common.{◌≡◌, ◌≤◌, ℕ, false, get_or}
use Rattle.page_geometry.specs.Cells.{count_below}
use Rattle.demo_job.proofs.first_plan.pages.Given as goal

abbrev pub invariant-loop-index : goal.invariant-loop-index
invariant-loop-index l = record {
  count : l.count ≡ count_below l.index (λ (k : ℕ). get_or l.plan.made.pages k false);
  few : l.count ≤ l.index;
}
