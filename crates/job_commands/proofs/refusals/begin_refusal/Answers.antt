-- `begin_refusal`: its contract.
use Rattle.std.proofs.Common.{sym, ap}
use Rattle.job_commands.specs.Refused.{of_begin}
use Rattle.job_commands.proofs.refusals.begin_refusal.Goals as goal

pub returns-in-OutOfMemory : goal.returns-in-OutOfMemory
returns-in-OutOfMemory c = ap of_begin (sym c.in-OutOfMemory.is)

pub returns-in-JobOpen : goal.returns-in-JobOpen
returns-in-JobOpen c = ap of_begin (sym c.in-JobOpen.is)

pub returns-in-StoreFault : goal.returns-in-StoreFault
returns-in-StoreFault c = ap of_begin (sym c.in-StoreFault.is)

pub returns-in-DeviceFault : goal.returns-in-DeviceFault
returns-in-DeviceFault c = ap of_begin (sym c.in-DeviceFault.is)

pub returns-in-CellsDiffer : goal.returns-in-CellsDiffer
returns-in-CellsDiffer c = ap of_begin (sym c.in-CellsDiffer.is)

pub returns-in-NotAJob : goal.returns-in-NotAJob
returns-in-NotAJob c = ap of_begin (sym c.in-NotAJob.is)

pub returns-in-Damaged : goal.returns-in-Damaged
returns-in-Damaged c = ap of_begin (sym c.in-Damaged.is)
