-- `last_end`: what holds at each turn of its loop, and what decreases at each turn.
use Rattle.std.proofs.Common.{◌≢◌, ℕ, ◌<◌, ◌≤◌, length, get_or}
use Rattle.elf32.proofs.strings.last_end.Given as goal

abbrev pub invariant-loop-ended : goal.invariant-loop-ended
invariant-loop-ended l = (l.ended ≤ length l.table) × ((k : ℕ) → l.ended ≤ k → k < length l.table → get_or l.table k 0 ≢ 0)

abbrev pub decreases-loop-ended : goal.decreases-loop-ended
decreases-loop-ended l = l.ended
