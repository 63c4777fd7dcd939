-- `Ending::put`: its contract, `Puts`.
use Rattle.std.proofs.Common.{append-nil}
use Rattle.outside_io.proofs.PutTexts.{puts_as, puts_then, puts_stops, puts_failed}
use Rattle.flm_check.proofs.ending.Ending.put.Goals as goal

pub returns-in_err-put_line : goal.returns-in_err-put_line
returns-in_err-put_line g c = puts_failed _ c.from_residual.ensures.0 (puts_stops c.args.details.now c.in_err-put_line.ensures)

pub returns : goal.returns
returns g c = puts_then _ c.in_ok-put_line.ensures (puts_as (append-nil c.args.details.now) c.put_pieces.ensures)
