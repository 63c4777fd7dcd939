-- `half`: that it keeps its contract.
use Rattle.std.proofs.Common.{arith}
use Rattle.std.proofs.lemmas.Grind.{common_steps}
use Rattle.elf32.specs.Fields.{half}
use Rattle.elf32.proofs.fields.half.Goals as goal

pub returns : goal.returns
unfolding half
returns c = grind (arith, common_steps)
