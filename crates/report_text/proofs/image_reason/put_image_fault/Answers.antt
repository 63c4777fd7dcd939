-- `put_image_fault`: its contract, `Puts`.
use Rattle.std.proofs.Common.{ap, sym}
use Rattle.outside_io.proofs.PutTexts.{puts_as, puts_then, puts_stops, puts_failed}
use Rattle.report_text.specs.Faults.{image_text}
use Rattle.report_text.proofs.image_reason.put_image_fault.Goals as goal

pub returns-in_err-put_pieces-in-Hex : goal.returns-in_err-put_pieces-in-Hex
unfolding image_text
returns-in_err-put_pieces-in-Hex g c =
    puts_as (ap image_text (sym c.in-Hex.is)) (puts_failed _ c.from_residual.ensures.0 (puts_stops _ c.in_err-put_pieces-in-Hex.ensures))

pub returns-in_err-put_pieces-in-Srec : goal.returns-in_err-put_pieces-in-Srec
unfolding image_text
returns-in_err-put_pieces-in-Srec g c =
    puts_as (ap image_text (sym c.in-Srec.is))
    (puts_failed _ c.from_residual-in_err-put_pieces-in-Srec.ensures.0 (puts_stops _ c.in_err-put_pieces-in-Srec.ensures))

pub returns-in_err-put_pieces-in-Elf : goal.returns-in_err-put_pieces-in-Elf
unfolding image_text
returns-in_err-put_pieces-in-Elf g c =
    puts_as (ap image_text (sym c.in-Elf.is))
    (puts_failed _ c.from_residual-in_err-put_pieces-in-Elf.ensures.0 (puts_stops _ c.in_err-put_pieces-in-Elf.ensures))

pub returns-in-OutOfMemory : goal.returns-in-OutOfMemory
unfolding image_text
returns-in-OutOfMemory g c = puts_as (ap image_text (sym c.in-OutOfMemory.is)) c.put_pieces-in-OutOfMemory.ensures

pub returns-in_ok-put_pieces-in-Srec : goal.returns-in_ok-put_pieces-in-Srec
unfolding image_text
returns-in_ok-put_pieces-in-Srec g c =
    puts_as (ap image_text (sym c.in-Srec.is)) (puts_then _ c.in_ok-put_pieces-in-Srec.ensures c.put_srec_kind.ensures)

pub returns-in_ok-put_pieces-in-Elf : goal.returns-in_ok-put_pieces-in-Elf
unfolding image_text
returns-in_ok-put_pieces-in-Elf g c =
    puts_as (ap image_text (sym c.in-Elf.is)) (puts_then _ c.in_ok-put_pieces-in-Elf.ensures c.put_elf_fault.ensures)

pub returns-in_ok-put_pieces-in-Hex : goal.returns-in_ok-put_pieces-in-Hex
unfolding image_text
returns-in_ok-put_pieces-in-Hex g c =
    puts_as (ap image_text (sym c.in-Hex.is)) (puts_then _ c.in_ok-put_pieces-in-Hex.ensures c.put_hex_kind.ensures)

pub returns-in-OutsideDevice : goal.returns-in-OutsideDevice
unfolding image_text
returns-in-OutsideDevice g c = puts_as (ap image_text (sym c.in-OutsideDevice.is)) c.put_address-in-OutsideDevice.ensures

pub returns-in-PastEnd : goal.returns-in-PastEnd
unfolding image_text
returns-in-PastEnd g c = puts_as (ap image_text (sym c.in-PastEnd.is)) c.put_address.ensures

pub returns-in-EmptyImage : goal.returns-in-EmptyImage
unfolding image_text
returns-in-EmptyImage g c = puts_as (ap image_text (sym c.in-EmptyImage.is)) c.put_pieces-in-EmptyImage.ensures

pub returns-in-Conflict : goal.returns-in-Conflict
unfolding image_text
returns-in-Conflict g c = puts_as (ap image_text (sym c.in-Conflict.is)) c.put_conflict.ensures

pub returns-in-NoForm : goal.returns-in-NoForm
unfolding image_text
returns-in-NoForm g c = puts_as (ap image_text (sym c.in-NoForm.is)) c.put_pieces.ensures
