-- `put_target`: its contract, `Puts`.
use Rattle.report_text.specs.DoneLine.{target_head}
use Rattle.outside_io.proofs.PutTexts.{puts_then, puts_stops, puts_failed}
use Rattle.report_text.proofs.target.put_target.Goals as goal

pub returns-in_err-put_pieces : goal.returns-in_err-put_pieces
unfolding target_head
returns-in_err-put_pieces g c = puts_failed _ c.from_residual.ensures.0
    (puts_stops _ (rw (c.as_bytes-number.ensures.value, c.format.ensures.text) at c.in_err-put_pieces.ensures))

pub returns : goal.returns
unfolding target_head
returns g c = puts_then _ (rw (c.as_bytes-number.ensures.value, c.format.ensures.text) at c.in_ok-put_pieces.ensures) c.put_outcome.ensures
