-- `check_place`: its clause `refused`.
use Rattle.std.proofs.Common.{arith}
use Rattle.std.proofs.lemmas.Grind.{common_steps}
use Rattle.command_files.proofs.wanted.check_place.Goals as goal

pub returns-clause-refused : goal.returns-clause-refused
returns-clause-refused c = grind (arith, common_steps)

pub returns-then-regions-eq1-clause-refused : goal.returns-then-regions-eq1-clause-refused
returns-then-regions-eq1-clause-refused c = grind (arith, common_steps)
