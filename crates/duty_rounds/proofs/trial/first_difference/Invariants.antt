-- `first_difference`: what holds at each turn of its loop.
use Rattle.std.proofs.Common.{◌≡◌, ◌<◌, ℕ, slice_index}
use Rattle.duty_rounds.proofs.trial.first_difference.Given as goal

abbrev pub invariant-loop-place : goal.invariant-loop-place
invariant-loop-place l = (k : ℕ) → k < l.place → slice_index l.found k ≡ slice_index l.wanted k
