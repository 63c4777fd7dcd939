-- `put_failed_call`: its contract, `Puts`.
use Rattle.report_text.specs.Calls.{end_text, failed_text}
use Rattle.outside_io.proofs.PutTexts.{puts_then, puts_stops, puts_failed}
use Rattle.report_text.proofs.call_reason.put_failed_call.Goals as goal

pub returns-in_err-put_pieces : goal.returns-in_err-put_pieces
unfolding failed_text
returns-in_err-put_pieces g c = puts_failed _ c.from_residual.ensures.0 (puts_stops (end_text c.args.end)
    (rw (c.as_bytes-number.ensures.value, c.format.ensures.text, c.text.ensures, c.function_of.ensures) at c.in_err-put_pieces.ensures))

pub returns : goal.returns
unfolding failed_text
returns g c = puts_then _ (rw (c.as_bytes-number.ensures.value, c.format.ensures.text, c.text.ensures, c.function_of.ensures) at c.in_ok-put_pieces.ensures)
    c.put_call_end.ensures
