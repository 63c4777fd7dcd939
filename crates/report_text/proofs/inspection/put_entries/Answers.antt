-- `put_entries`: its contract, `Puts`.
use Rattle.report_text.specs.Inspection.{entries_text}
use Rattle.outside_io.proofs.PutTexts.{puts_then, puts_stops, puts_failed}
use Rattle.report_text.proofs.inspection.put_entries.Goals as goal

pub returns-in_err-put_entry : goal.returns-in_err-put_entry
unfolding entries_text
returns-in_err-put_entry g c = puts_failed _ c.from_residual.ensures.0
    (puts_stops _ (puts_stops _ (puts_stops _ (puts_stops _ (puts_stops _ c.in_err-put_entry.ensures)))))

pub returns-in_err-put_entry-2 : goal.returns-in_err-put_entry-2
unfolding entries_text
returns-in_err-put_entry-2 g c = puts_failed _ c.from_residual-in_err-put_entry-2.ensures.0
    (puts_stops _ (puts_stops _ (puts_stops _ (puts_stops _ (puts_then _ c.in_ok-put_entry.ensures c.in_err-put_entry-2.ensures)))))

pub returns-in_err-put_entry-3 : goal.returns-in_err-put_entry-3
unfolding entries_text
returns-in_err-put_entry-3 g c = puts_failed _ c.from_residual-in_err-put_entry-3.ensures.0
    (puts_stops _ (puts_stops _ (puts_stops _ (puts_then _ (puts_then _ c.in_ok-put_entry.ensures c.in_ok-put_entry-2.ensures) c.in_err-put_entry-3.ensures))))

pub returns-in_err-put_entry-4 : goal.returns-in_err-put_entry-4
unfolding entries_text
returns-in_err-put_entry-4 g c = puts_failed _ c.from_residual-in_err-put_entry-4.ensures.0
    (puts_stops _ (puts_stops _ (puts_then _ (puts_then _ (puts_then _ c.in_ok-put_entry.ensures c.in_ok-put_entry-2.ensures) c.in_ok-put_entry-3.ensures)
    c.in_err-put_entry-4.ensures)))

pub returns-in_err-put_optional_entry : goal.returns-in_err-put_optional_entry
unfolding entries_text
returns-in_err-put_optional_entry g c = puts_failed _ c.from_residual-in_err-put_optional_entry.ensures.0
    (puts_stops _ (puts_then _ (puts_then _ (puts_then _ (puts_then _ c.in_ok-put_entry.ensures c.in_ok-put_entry-2.ensures) c.in_ok-put_entry-3.ensures)
    c.in_ok-put_entry-4.ensures) c.in_err-put_optional_entry.ensures))

pub returns : goal.returns
unfolding entries_text
returns g c = puts_then _ (puts_then _ (puts_then _ (puts_then _ (puts_then _ c.in_ok-put_entry.ensures c.in_ok-put_entry-2.ensures)
    c.in_ok-put_entry-3.ensures) c.in_ok-put_entry-4.ensures) c.in_ok-put_optional_entry.ensures) c.put_optional_entry-2.ensures
