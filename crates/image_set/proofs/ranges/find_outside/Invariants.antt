-- `find_outside`: what holds at each turn of its loop, and what decreases at each turn.
use Rattle.std.proofs.Common.{ℕ, ◌<◌, ◌≤◌, ◌-◌}
use Rattle.std.specs.Prelude.{IsTrue}
use Rattle.image_set.specs.Ranges.{is_inside}
use Rattle.image_set.proofs.ranges.find_outside.Given as goal

abbrev pub invariant-loop-address : goal.invariant-loop-address
invariant-loop-address l = (l.at ≤ l.address) × ((a : ℕ) → l.at ≤ a → a < l.address → IsTrue (is_inside l.ranges a))

abbrev pub decreases-loop-address : goal.decreases-loop-address
decreases-loop-address l = l.end - l.address
