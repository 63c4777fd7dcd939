-- `prepend`: that it keeps its contract.
use Rattle.std.proofs.Common.{arith}
use Rattle.std.proofs.lemmas.Grind.{common_steps}
use Rattle.byte_map.proofs.run_buffer.RunBuffer.prepend.Goals as goal

pub invariant_of-self-2 : goal.invariant_of-self-2
invariant_of-self-2 c = grind (arith, common_steps)

pub returns-clause-ok : goal.returns-clause-ok
returns-clause-ok c = grind (arith, common_steps)

pub overflow_cast-self : goal.overflow_cast-self
overflow_cast-self c = grind (arith, common_steps)

pub copy_from_slice-requires-2 : goal.copy_from_slice-requires-2
copy_from_slice-requires-2 c = grind (arith, common_steps)

pub overflow_sub-self : goal.overflow_sub-self
overflow_sub-self c = grind (arith, common_steps)

pub copy_from_slice-requires : goal.copy_from_slice-requires
copy_from_slice-requires c = grind (arith, common_steps)
