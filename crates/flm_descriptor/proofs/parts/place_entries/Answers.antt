-- `place_entries`: that it keeps its contract.
use Rattle.std.proofs.Common.{arith}
use Rattle.std.proofs.lemmas.Grind.{common_steps}
use Rattle.flm_descriptor.specs.Parts.{entries_of}
use Rattle.flm_descriptor.proofs.parts.place_entries.Goals as goal

pub returns-clause-entries : goal.returns-clause-entries
unfolding entries_of
returns-clause-entries c = grind (arith, common_steps)

pub returns-clause-inside : goal.returns-clause-inside
returns-clause-inside c = grind (arith, common_steps)
