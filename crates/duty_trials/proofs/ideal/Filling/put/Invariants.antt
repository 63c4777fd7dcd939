-- `Filling::put`: what holds at each turn of its loop.
use Rattle.std.proofs.Common.{◌+◌}
use Rattle.duty_trials.specs.Ended.{OnlyBetween}
use Rattle.duty_trials.proofs.ideal.Filling.put.Given as goal

abbrev pub invariant-loop-place : goal.invariant-loop-place
invariant-loop-place l = OnlyBetween l.from (l.from + l.place) l.fn.cells l.cells
