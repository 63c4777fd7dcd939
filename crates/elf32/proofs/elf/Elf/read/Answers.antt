-- `Elf::read`: what `keep_names` requires.
use Rattle.std.proofs.Common.{arith}
use Rattle.std.proofs.lemmas.Grind.{common_steps}
use Rattle.elf32.proofs.elf.Elf.read.Goals as goal

pub keep_names-requires-clause-header : goal.keep_names-requires-clause-header
keep_names-requires-clause-header c = grind (arith, common_steps)
