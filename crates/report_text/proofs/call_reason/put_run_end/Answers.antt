-- `put_run_end`: its contract, `Puts`.
use Rattle.std.proofs.Common.{ap, sym}
use Rattle.outside_io.proofs.PutTexts.{puts_as}
use Rattle.report_text.specs.Calls.{run_text}
use Rattle.report_text.proofs.call_reason.put_run_end.Goals as goal

pub returns-in-StrayBreak : goal.returns-in-StrayBreak
unfolding run_text
returns-in-StrayBreak g c = puts_as (ap run_text (sym c.in-StrayBreak.is)) c.put_place-in-StrayBreak.ensures

pub returns-in-DeviceFault : goal.returns-in-DeviceFault
unfolding run_text
returns-in-DeviceFault g c = puts_as (ap run_text (sym c.in-DeviceFault.is)) c.put_pieces.ensures

pub returns-in-Returned : goal.returns-in-Returned
unfolding run_text
returns-in-Returned g c = puts_as (ap run_text (sym c.in-Returned.is)) c.put_answer.ensures

pub returns-in-NoFuel : goal.returns-in-NoFuel
unfolding run_text
returns-in-NoFuel g c = puts_as (ap run_text (sym c.in-NoFuel.is)) c.put_place.ensures

pub returns-in-Faulted : goal.returns-in-Faulted
unfolding run_text
returns-in-Faulted g c = puts_as (ap run_text (sym c.in-Faulted.is)) c.put_run_fault.ensures
