-- `entry_symbol`: that it keeps its contract.
use Rattle.std.proofs.Common.{arith, rules}
use Rattle.std.proofs.lemmas.Grind.{common_steps}
use Rattle.flm_forge.proofs.symbol.entry_symbol.Goals as goal

pub returns : goal.returns
returns c = first_of (search rules, grind (arith, common_steps))
