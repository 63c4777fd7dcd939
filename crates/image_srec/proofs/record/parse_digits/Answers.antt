-- `parse_digits`: that it keeps its contract.
use Rattle.std.proofs.Common.{arith}
use Rattle.std.proofs.lemmas.Grind.{common_steps}
use Rattle.image_srec.proofs.record.parse_digits.Goals as goal

pub slice_bounds-bytes-end : goal.slice_bounds-bytes-end
slice_bounds-bytes-end c = grind (arith, common_steps)

pub check-requires-clause-long : goal.check-requires-clause-long
check-requires-clause-long c = grind (arith, common_steps)

pub decode-requires : goal.decode-requires
decode-requires c = grind (arith, common_steps)

pub check-requires-clause-most : goal.check-requires-clause-most
check-requires-clause-most c = grind (arith, common_steps)
