-- `put_call_end`: its contract, `Puts`.
use Rattle.std.proofs.Common.{ap, sym}
use Rattle.outside_io.proofs.PutTexts.{puts_as}
use Rattle.report_text.specs.Calls.{end_text}
use Rattle.report_text.proofs.call_reason.put_call_end.Goals as goal

pub returns-in-DeviceFault : goal.returns-in-DeviceFault
unfolding end_text
returns-in-DeviceFault g c = puts_as (ap end_text (sym c.in-DeviceFault.is)) c.put_pieces-in-DeviceFault.ensures

pub returns-in-Done : goal.returns-in-Done
unfolding end_text
returns-in-Done g c = puts_as (ap end_text (sym c.in-Done.is)) c.put_pieces.ensures

pub returns-in-Refused : goal.returns-in-Refused
unfolding end_text
returns-in-Refused g c = puts_as (ap end_text (sym c.in-Refused.is)) c.put_answer.ensures

pub returns-in-Ended : goal.returns-in-Ended
unfolding end_text
returns-in-Ended g c = puts_as (ap end_text (sym c.in-Ended.is)) c.put_run_end.ensures
