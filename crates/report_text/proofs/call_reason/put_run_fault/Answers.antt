-- `put_run_fault`: its contract, `Puts`.
use Rattle.std.proofs.Common.{ap, sym}
use Rattle.outside_io.proofs.PutTexts.{puts_as}
use Rattle.report_text.specs.Calls.{fault_text}
use Rattle.report_text.proofs.call_reason.put_run_fault.Goals as goal

pub returns-in-Unaligned : goal.returns-in-Unaligned
unfolding fault_text
returns-in-Unaligned g c = puts_as (ap (λ kind. fault_text kind c.args.pc) (sym c.in-Unaligned.is)) c.put_access-in-Unaligned.ensures

pub returns-in-BusFault : goal.returns-in-BusFault
unfolding fault_text
returns-in-BusFault g c = puts_as (ap (λ kind. fault_text kind c.args.pc) (sym c.in-BusFault.is)) c.put_access.ensures

pub returns-in-Undefined : goal.returns-in-Undefined
unfolding fault_text
returns-in-Undefined g c = puts_as (ap (λ kind. fault_text kind c.args.pc) (sym c.in-Undefined.is)) c.put_place.ensures

pub returns-in-BadState : goal.returns-in-BadState
unfolding fault_text
returns-in-BadState g c = puts_as (ap (λ kind. fault_text kind c.args.pc) (sym c.in-BadState.is)) c.put_place-in-BadState.ensures
