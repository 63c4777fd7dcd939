-- `put_device`: its contract, `Puts`.
use Rattle.std.proofs.Common.{ap}
use Rattle.report_text.specs.Inspection.{name_text, device_text}
use Rattle.outside_io.proofs.PutTexts.{puts_then, puts_stops, puts_failed, puts_as}
use Rattle.report_text.proofs.inspection.put_device.Goals as goal

pub returns-in_err-put_name : goal.returns-in_err-put_name
unfolding device_text
returns-in_err-put_name g c = puts_failed _ c.from_residual.ensures.0
    (puts_stops _ (puts_stops _ (puts_as (ap name_text c.bytes.ensures) c.in_err-put_name.ensures)))

pub returns-in_err-put_kind : goal.returns-in_err-put_kind
unfolding device_text
returns-in_err-put_kind g c = puts_failed _ c.from_residual-in_err-put_kind.ensures.0
    (puts_stops _ (puts_then _ (puts_as (ap name_text c.bytes.ensures) c.in_ok-put_name.ensures) c.in_err-put_kind.ensures))

pub returns : goal.returns
unfolding device_text
returns g c = puts_then _ (puts_then _ (puts_as (ap name_text c.bytes.ensures) c.in_ok-put_name.ensures) c.in_ok-put_kind.ensures) c.put_values.ensures
