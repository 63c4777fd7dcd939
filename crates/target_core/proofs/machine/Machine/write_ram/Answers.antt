-- `Machine::write_ram`: its clause `ram_stays`.
use Rattle.std.proofs.Common.{arith}
use Rattle.std.proofs.lemmas.Grind.{common_steps}
use Rattle.target_core.proofs.machine.Machine.write_ram.Goals as goal

pub returns-clause-ram_stays : goal.returns-clause-ram_stays
returns-clause-ram_stays c = grind (arith, common_steps)
