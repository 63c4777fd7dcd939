-- `skip_range`: what holds at each turn of its loop.
use Rattle.std.proofs.Common.{◌≡◌, ℕ, ◌<◌, false, get_or}
use Rattle.image_set.specs.Ranges.{is_in_range}
use Rattle.image_set.proofs.ranges.skip_range.Given as goal

abbrev pub invariant-loop-base : goal.invariant-loop-base
invariant-loop-base l = (k : ℕ) → k < l.base-index → is_in_range (get_or l.ranges k (0, 0)) l.address ≡ false
