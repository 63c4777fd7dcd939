-- `shown_place`: that it keeps its contract.
use Rattle.std.proofs.Common.{arith, rules}
use Rattle.std.proofs.lemmas.Grind.{common_steps}
use Rattle.flm_forge.specs.Entries.{shown_place}
use Rattle.flm_forge.proofs.symbol.shown_place.Goals as goal

pub returns : goal.returns
unfolding shown_place
returns c = first_of (search rules, grind (arith, common_steps))
