-- `put_digits`: its contract, `Puts`, and that its loop keeps its invariant.
use Rattle.std.proofs.Common.{arith}
use Rattle.std.proofs.lemmas.Grind.{common_steps}
use Rattle.octets.specs.Digit.{hex_text}
use Rattle.outside_io.proofs.PutTexts.{puts_nothing, puts_more, puts_breaks, puts_failed}
use Rattle.job_parts.proofs.listing.put_digits.Goals as goal

pub loop-byte-init : goal.loop-byte-init
loop-byte-init g c = puts_nothing _ _ _

pub loop-byte-preserved : goal.loop-byte-preserved
loop-byte-preserved g c = puts_more (hex_text 2) _ _ _ c.loop-byte-test.true c.loop-byte.invariant
    (rw (c.hex_digits.ensures, c.from.ensures) at c.in_ok-put_pieces.ensures)

pub returns-in_err-put_pieces : goal.returns-in_err-put_pieces
returns-in_err-put_pieces g c = puts_failed _ c.from_residual.ensures.0
    (puts_breaks (hex_text 2) _ _ _ c.loop-byte-test.true c.loop-byte.invariant (rw (c.hex_digits.ensures, c.from.ensures) at c.in_err-put_pieces.ensures))

pub returns : goal.returns
returns g c = grind (arith, common_steps)
