-- `Watch::renew`: its clause `moment`.
use Rattle.std.proofs.Common.{arith}
use Rattle.std.proofs.lemmas.Grind.{common_steps}
use Rattle.duty_trials.proofs.watch.Watch+MemoryBench.renew.Goals as goal

pub returns-clause-moment : goal.returns-clause-moment
returns-clause-moment c = grind (arith, common_steps)
