-- `fill`: what holds at each turn of its loop.
use Rattle.std.proofs.Common.{◌≡◌, ◌<◌, ◌≤◌, ℕ, slice_index}
use Rattle.duty_trials.specs.Ended.{OnlyBetween}
use Rattle.duty_trials.proofs.ideal.fill.Given as goal

abbrev pub invariant-loop-index : goal.invariant-loop-index
invariant-loop-index l = OnlyBetween l.from l.index l.fn.cells l.cells × ((i : ℕ) → l.from ≤ i → i < l.index → slice_index l.cells i ≡ l.value)
