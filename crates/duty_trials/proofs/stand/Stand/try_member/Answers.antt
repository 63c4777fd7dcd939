-- `Stand::try_member`: what `try_work` requires.
use Rattle.std.proofs.Common.{arith}
use Rattle.std.proofs.lemmas.Grind.{common_steps}
use Rattle.duty_trials.proofs.stand.Stand.try_member.Goals as goal

pub try_work-requires-clause-may : goal.try_work-requires-clause-may
try_work-requires-clause-may c = grind (arith, common_steps)
