-- `little_endian`: that it keeps its contract, and that no number overflows.
use Rattle.std.proofs.Common.{arith}
use Rattle.std.proofs.lemmas.Grind.{common_steps}
use Rattle.flash_layout.proofs.cells.little_endian.Goals as goal

pub returns-in-len4-clause-value : goal.returns-in-len4-clause-value
returns-in-len4-clause-value c = grind (arith, common_steps)

pub returns-in-len3-clause-value : goal.returns-in-len3-clause-value
returns-in-len3-clause-value c = grind (arith, common_steps)

pub returns-in-len2-clause-value : goal.returns-in-len2-clause-value
returns-in-len2-clause-value c = grind (arith, common_steps)

pub returns-in-len3-clause-byte : goal.returns-in-len3-clause-byte
returns-in-len3-clause-byte c = grind (arith, common_steps)

pub returns-in-len4-clause-half : goal.returns-in-len4-clause-half
returns-in-len4-clause-half c = grind (arith, common_steps)

pub returns-in-len2-clause-half : goal.returns-in-len2-clause-half
returns-in-len2-clause-half c = grind (arith, common_steps)

pub returns-in-len2-clause-byte : goal.returns-in-len2-clause-byte
returns-in-len2-clause-byte c = grind (arith, common_steps)

pub returns-in-len3-clause-half : goal.returns-in-len3-clause-half
returns-in-len3-clause-half c = grind (arith, common_steps)

pub returns-in-len4-clause-byte : goal.returns-in-len4-clause-byte
returns-in-len4-clause-byte c = grind (arith, common_steps)

pub returns-in_default-clause-value : goal.returns-in_default-clause-value
returns-in_default-clause-value c = grind (arith, common_steps)

pub returns-in-len1-clause-value : goal.returns-in-len1-clause-value
returns-in-len1-clause-value c = grind (arith, common_steps)
