-- `put_outcome`: its contract, `Puts`.
use Rattle.std.specs.Prelude.{codes}
use Rattle.outside_io.proofs.PutTexts.{puts_then, puts_stops, puts_failed}
use Rattle.report_text.proofs.target.put_outcome.Goals as goal

pub returns-in_err-put_reason-in-Some : goal.returns-in_err-put_reason-in-Some
returns-in_err-put_reason-in-Some g c = rw c.in-Some.is (puts_failed _ c.from_residual.ensures.0 (puts_stops (codes "\n") c.in_err-put_reason-in-Some.ensures))

pub returns-in_ok-put_reason-in-Some : goal.returns-in_ok-put_reason-in-Some
returns-in_ok-put_reason-in-Some g c = rw c.in-Some.is (puts_then _ c.in_ok-put_reason-in-Some.ensures c.put_pieces-in-Some.ensures)

pub returns-in-None : goal.returns-in-None
returns-in-None g c = rw c.in-None.is c.put_pieces.ensures
