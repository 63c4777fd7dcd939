-- `prepare_from`: what `prepare_with` requires.
use Rattle.std.proofs.Common.{arith}
use Rattle.std.proofs.lemmas.Grind.{common_steps}
use Rattle.flash_session.proofs.player.prepare_from.Goals as goal

pub prepare_with-requires-clause-may : goal.prepare_with-requires-clause-may
prepare_with-requires-clause-may g c = grind (arith, common_steps)

pub prepare_with-requires-clause-range : goal.prepare_with-requires-clause-range
prepare_with-requires-clause-range g c = grind (arith, common_steps)

pub returns-clause-prepares : goal.returns-clause-prepares
returns-clause-prepares g c = grind (arith, common_steps)
