-- `drive`: what `give` requires, and its clause.
use Rattle.std.proofs.Common.{arith}
use Rattle.std.proofs.lemmas.Grind.{common_steps}
use Rattle.session_vectors.proofs.gang.gangs.drive.Goals as goal

pub give-requires-clause-some : goal.give-requires-clause-some
give-requires-clause-some c = grind (arith, common_steps)

pub returns-2 : goal.returns-2
returns-2 c = grind (arith, common_steps)
