-- `put_refusal`: its contract, `Puts`.
use Rattle.std.specs.Prelude.{codes}
use Rattle.report_text.specs.Lines.{reason_of, line_of}
use Rattle.report_text.specs.Shown.{shown}
use Rattle.outside_io.proofs.PutTexts.{puts_then, puts_stops, puts_failed}
use Rattle.report_text.proofs.refusal.put_refusal.Goals as goal

pub returns-in_err-put_pieces : goal.returns-in_err-put_pieces
unfolding line_of
returns-in_err-put_pieces g c = puts_failed _ c.from_residual.ensures.0
    (puts_stops (codes "\n") (puts_stops (reason_of (shown c.args.refusal.now)) c.in_err-put_pieces.ensures))

pub returns-in_err-put_reason : goal.returns-in_err-put_reason
unfolding line_of
returns-in_err-put_reason g c = puts_failed _ c.from_residual-in_err-put_reason.ensures.0
    (puts_stops _ (puts_then _ c.in_ok-put_pieces.ensures c.in_err-put_reason.ensures))

pub returns : goal.returns
unfolding line_of
returns g c = puts_then _ (puts_then _ c.in_ok-put_pieces.ensures c.in_ok-put_reason.ensures) c.put_pieces-2.ensures
