-- `prepare_with`: its clause `long`, and what `prepare` requires.
use Rattle.std.proofs.Common.{arith}
use Rattle.std.proofs.lemmas.Grind.{common_steps}
use Rattle.flash_session.proofs.player.prepare_with.Goals as goal

pub returns-in-Ok-clause-long : goal.returns-in-Ok-clause-long
returns-in-Ok-clause-long g c = grind (arith, common_steps)

pub prepare-requires-clause-may : goal.prepare-requires-clause-may
prepare-requires-clause-may g c = grind (arith, common_steps)
