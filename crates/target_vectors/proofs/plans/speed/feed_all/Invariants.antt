-- `feed_all`: what holds at each turn of its loop, and what decreases at each turn.
use Rattle.std.proofs.Common.{◌≡◌, ◌≤◌, ◌-◌, length}
use Rattle.erase_planner.specs.Marks.{Covers}
use Rattle.target_vectors.proofs.plans.speed.feed_all.Given as goal

abbrev pub invariant-loop-at : goal.invariant-loop-at
invariant-loop-at l = record {
  making : length l.plan.marks ≡ length l.geometry.pages;
  covers : Covers l.geometry l.plan;
  count : l.plan.count ≡ l.at;
  within : l.at ≤ l.size;
}

abbrev pub decreases-loop-at : goal.decreases-loop-at
decreases-loop-at l = l.size - l.at
