-- `put_elf_header`: that it keeps its contract.
use Rattle.std.proofs.Common.{arith}
use Rattle.std.proofs.lemmas.Grind.{common_steps}
use Rattle.flm_forge.specs.Sections.{elf_header}
use Rattle.flm_forge.proofs.section.put_elf_header.Goals as goal

pub returns : goal.returns
unfolding elf_header
returns c = grind (arith, common_steps)
