-- `try_rounds`: what holds at each turn of its loop.
use Rattle.std.proofs.Common.{◌≡◌}
use Rattle.duty_rounds.specs.declared.verdict.Verdict.TheVariants as verdict
use Rattle.duty_rounds.proofs.rounds.try_rounds.Given as goal

abbrev pub invariant-loop-number : goal.invariant-loop-number
invariant-loop-number g l = l.trials.verdict ≡ verdict.Tried
