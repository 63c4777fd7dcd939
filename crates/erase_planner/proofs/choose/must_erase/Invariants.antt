-- `must_erase`: what holds at each turn of its loop.
use Rattle.std.proofs.Common.{◌≡◌, ℕ, ◌≤◌, ◌<◌, false}
use Rattle.erase_planner.specs.Marks.{mark_at, needs_erasure}
use Rattle.erase_planner.proofs.choose.must_erase.Given as goal

abbrev pub invariant-loop-page : goal.invariant-loop-page
invariant-loop-page l = (p : ℕ) → l.first ≤ p → p < l.page → needs_erasure (mark_at l.marks p) ≡ false
