-- `optional_entry`: that it keeps its contract.
use Rattle.std.proofs.Common.{arith}
use Rattle.std.proofs.lemmas.Grind.{common_steps}
use Rattle.flm_descriptor.proofs.parts.optional_entry.Goals as goal

pub returns-in_ok-entry-in-Some-clause-inside : goal.returns-in_ok-entry-in-Some-clause-inside
returns-in_ok-entry-in-Some-clause-inside c = grind (arith, common_steps)
