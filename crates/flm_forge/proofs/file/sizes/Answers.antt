-- `sizes`: its clause `too_long`.
use Rattle.std.proofs.Common.{arith}
use Rattle.std.proofs.lemmas.Grind.{common_steps}
use Rattle.flm_forge.proofs.file.sizes.Goals as goal

pub returns-then-code-init_data-clause-too_long : goal.returns-then-code-init_data-clause-too_long
returns-then-code-init_data-clause-too_long c = grind (arith, common_steps)
