-- `gather_digits`: that its loop keeps its invariant.
use Rattle.std.proofs.Common.{arith}
use Rattle.image_more.proofs.DigitLemmas.{digits_next}
use Rattle.image_more.proofs.line.gather_digits.Goals as goal

pub loop-byte-preserved : goal.loop-byte-preserved
loop-byte-preserved g c = grind (arith, digits_next)
