-- `put_inspection`: its contract, `Puts`.
use Rattle.std.proofs.Common.{ap}
use Rattle.std.specs.List.{flat_map}
use Rattle.report_text.specs.Inspection.{item_text, inspection_text}
use Rattle.outside_io.proofs.PutTexts.{puts_then, puts_stops, puts_failed, puts_as}
use Rattle.report_text.proofs.inspection.put_inspection.Goals as goal

pub returns-in_err-put_device : goal.returns-in_err-put_device
unfolding inspection_text
returns-in_err-put_device g c = puts_failed _ c.from_residual.ensures.0 (puts_stops _ (puts_stops _ (puts_stops _ (puts_stops _ c.in_err-put_device.ensures))))

pub returns-in_err-put_count : goal.returns-in_err-put_count
unfolding inspection_text
returns-in_err-put_count g c = puts_failed _ c.from_residual-in_err-put_count.ensures.0
    (puts_stops _ (puts_stops _ (puts_stops _ (puts_then _ c.in_ok-put_device.ensures c.in_err-put_count.ensures))))

pub returns-in_err-put_items : goal.returns-in_err-put_items
unfolding inspection_text
returns-in_err-put_items g c = puts_failed _ c.from_residual-in_err-put_items.ensures.0
    (puts_stops _ (puts_stops _ (puts_then _ (puts_then _ c.in_ok-put_device.ensures c.in_ok-put_count.ensures)
    (puts_as (ap (flat_map item_text) c.as_slice.ensures) c.in_err-put_items.ensures))))

pub returns-in_err-put_parts : goal.returns-in_err-put_parts
unfolding inspection_text
returns-in_err-put_parts g c = puts_failed _ c.from_residual-in_err-put_parts.ensures.0
    (puts_stops _ (puts_then _ (puts_then _ (puts_then _ c.in_ok-put_device.ensures c.in_ok-put_count.ensures)
    (puts_as (ap (flat_map item_text) c.as_slice.ensures) c.in_ok-put_items.ensures)) c.in_err-put_parts.ensures))

pub returns : goal.returns
unfolding inspection_text
returns g c = puts_then _ (puts_then _ (puts_then _ (puts_then _ c.in_ok-put_device.ensures c.in_ok-put_count.ensures)
    (puts_as (ap (flat_map item_text) c.as_slice.ensures) c.in_ok-put_items.ensures)) c.in_ok-put_parts.ensures) c.put_entries.ensures
