-- `word`: that it keeps its contract.
use Rattle.std.proofs.Common.{arith}
use Rattle.std.proofs.lemmas.Grind.{common_steps}
use Rattle.elf32.specs.Fields.{word}
use Rattle.elf32.proofs.fields.word.Goals as goal

pub returns : goal.returns
unfolding word
returns c = grind (arith, common_steps)
