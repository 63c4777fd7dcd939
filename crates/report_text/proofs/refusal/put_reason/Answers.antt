-- `put_reason`: its contract, `Puts`.
use Rattle.std.proofs.Common.{◌≡◌, ap, sym}
use Rattle.outside_io.proofs.PutTexts.{puts_as, puts_then, puts_stops, puts_failed}
use Rattle.report_text.specs.Lines.{reason_of}
use Rattle.report_text.specs.Shown.{shown}
use Rattle.report_text.specs.declared.refusal.Refusal.{Refusal}
use Rattle.report_text.proofs.refusal.put_reason.Goals as goal

says : {a b : Refusal} → a ≡ b → reason_of (shown a) ≡ reason_of (shown b)
says same = ap (λ (r : Refusal). reason_of (shown r)) same

pub returns-in_err-put_pieces-in-ImageMisplaced : goal.returns-in_err-put_pieces-in-ImageMisplaced
unfolding reason_of
returns-in_err-put_pieces-in-ImageMisplaced g c =
    puts_as (says (sym c.in-ImageMisplaced.is))
    (puts_failed _ c.from_residual.ensures.0 (puts_stops _ c.in_err-put_pieces-in-ImageMisplaced.ensures))

pub returns-in_err-put_pieces-in-FlmRefused : goal.returns-in_err-put_pieces-in-FlmRefused
unfolding reason_of
returns-in_err-put_pieces-in-FlmRefused g c =
    puts_as (says (sym c.in-FlmRefused.is))
    (puts_failed _ c.from_residual-in_err-put_pieces-in-FlmRefused.ensures.0 (puts_stops _ c.in_err-put_pieces-in-FlmRefused.ensures))

pub returns-in_err-put_pieces-in-BoardRefused : goal.returns-in_err-put_pieces-in-BoardRefused
unfolding reason_of
returns-in_err-put_pieces-in-BoardRefused g c =
    puts_as (says (sym c.in-BoardRefused.is))
    (puts_failed _ c.from_residual-in_err-put_pieces-in-BoardRefused.ensures.0 (puts_stops _ c.in_err-put_pieces-in-BoardRefused.ensures))

pub returns-in-Usage : goal.returns-in-Usage
unfolding reason_of
returns-in-Usage g c = puts_as (says (sym c.in-Usage.is)) c.put_pieces-in-Usage.ensures

pub returns-in-InputFault : goal.returns-in-InputFault
unfolding reason_of
returns-in-InputFault g c = puts_as (says (sym c.in-InputFault.is)) (rw c.bytes.ensures at c.put_unread.ensures)

pub returns-in-DeviceFault : goal.returns-in-DeviceFault
unfolding reason_of
returns-in-DeviceFault g c = puts_as (says (sym c.in-DeviceFault.is)) c.put_pieces-in-DeviceFault.ensures

pub returns-in-OutputFault : goal.returns-in-OutputFault
unfolding reason_of
returns-in-OutputFault g c = puts_as (says (sym c.in-OutputFault.is)) c.put_pieces-in-OutputFault.ensures

pub returns-in_ok-put_pieces-in-BoardRefused : goal.returns-in_ok-put_pieces-in-BoardRefused
unfolding reason_of
returns-in_ok-put_pieces-in-BoardRefused g c =
    puts_as (says (sym c.in-BoardRefused.is)) (puts_then _ c.in_ok-put_pieces-in-BoardRefused.ensures c.put_board_fault.ensures)

pub returns-in_ok-put_pieces-in-FlmRefused : goal.returns-in_ok-put_pieces-in-FlmRefused
unfolding reason_of
returns-in_ok-put_pieces-in-FlmRefused g c =
    puts_as (says (sym c.in-FlmRefused.is)) (puts_then _ c.in_ok-put_pieces-in-FlmRefused.ensures c.put_flm_fault.ensures)

pub returns-in_ok-put_pieces-in-ImageMisplaced : goal.returns-in_ok-put_pieces-in-ImageMisplaced
unfolding reason_of
returns-in_ok-put_pieces-in-ImageMisplaced g c =
    puts_as (says (sym c.in-ImageMisplaced.is)) (puts_then _ c.in_ok-put_pieces-in-ImageMisplaced.ensures c.put_image_fault.ensures)

pub returns-in-Differs : goal.returns-in-Differs
unfolding reason_of
returns-in-Differs g c = puts_as (says (sym c.in-Differs.is)) c.put_difference-in-Differs.ensures

pub returns-in-Mismatch : goal.returns-in-Mismatch
unfolding reason_of
returns-in-Mismatch g c = puts_as (says (sym c.in-Mismatch.is)) c.put_difference.ensures

pub returns-in-Damaged : goal.returns-in-Damaged
unfolding reason_of
returns-in-Damaged g c = puts_as (says (sym c.in-Damaged.is)) c.put_hashes.ensures

pub returns-in-CallFailed : goal.returns-in-CallFailed
unfolding reason_of
returns-in-CallFailed g c = puts_as (says (sym c.in-CallFailed.is)) c.put_failed_call.ensures

pub returns-in-CellsDiffer : goal.returns-in-CellsDiffer
unfolding reason_of
returns-in-CellsDiffer g c = puts_as (says (sym c.in-CellsDiffer.is)) c.put_cells.ensures

pub returns-in-ImageRefused : goal.returns-in-ImageRefused
unfolding reason_of
returns-in-ImageRefused g c = puts_as (says (sym c.in-ImageRefused.is)) (rw c.bytes-in-ImageRefused.ensures at c.put_image_file.ensures)

pub returns-in-StoreFault : goal.returns-in-StoreFault
unfolding reason_of
returns-in-StoreFault g c = puts_as (says (sym c.in-StoreFault.is)) c.put_pieces-in-StoreFault.ensures

pub returns-in-OtherDevice : goal.returns-in-OtherDevice
unfolding reason_of
returns-in-OtherDevice g c = puts_as (says (sym c.in-OtherDevice.is)) c.put_device.ensures

pub returns-in-NoRoom : goal.returns-in-NoRoom
unfolding reason_of
returns-in-NoRoom g c = puts_as (says (sym c.in-NoRoom.is)) c.put_room.ensures

pub returns-in-ImageTooLong : goal.returns-in-ImageTooLong
unfolding reason_of
returns-in-ImageTooLong g c = puts_as (says (sym c.in-ImageTooLong.is)) c.put_lengths.ensures

pub returns-in-NotAJob : goal.returns-in-NotAJob
unfolding reason_of
returns-in-NotAJob g c = puts_as (says (sym c.in-NotAJob.is)) c.put_offset.ensures

pub returns-in-OutOfMemory : goal.returns-in-OutOfMemory
unfolding reason_of
returns-in-OutOfMemory g c = puts_as (says (sym c.in-OutOfMemory.is)) c.put_pieces.ensures

pub returns-in-NoJob : goal.returns-in-NoJob
unfolding reason_of
returns-in-NoJob g c = puts_as (says (sym c.in-NoJob.is)) c.put_pieces-in-NoJob.ensures

pub returns-in-JobOpen : goal.returns-in-JobOpen
unfolding reason_of
returns-in-JobOpen g c = puts_as (says (sym c.in-JobOpen.is)) c.put_pieces-in-JobOpen.ensures
