-- `first_difference`: that a place is among the cells.
use Rattle.std.proofs.Common.{arith}
use Rattle.std.proofs.lemmas.Grind.{common_steps}
use Rattle.duty_rounds.proofs.trial.first_difference.Goals as goal

pub bounds-found-place-then-found-place : goal.bounds-found-place-then-found-place
bounds-found-place-then-found-place c = grind (arith, common_steps)
