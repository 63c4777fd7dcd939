-- `put_uf2_fault`: its contract, `Puts`.
use Rattle.std.proofs.Common.{ap, sym}
use Rattle.outside_io.proofs.PutTexts.{puts_as}
use Rattle.report_text.specs.Faults.{uf2_text}
use Rattle.report_text.proofs.image_reason.put_uf2_fault.Goals as goal

pub returns-in-OutOfMemory : goal.returns-in-OutOfMemory
unfolding uf2_text
returns-in-OutOfMemory g c = puts_as (ap uf2_text (sym c.in-OutOfMemory.is)) c.put_pieces-in-OutOfMemory.ensures

pub returns-in-BadSize : goal.returns-in-BadSize
unfolding uf2_text
returns-in-BadSize g c =
    puts_as (ap uf2_text (sym c.in-BadSize.is))
    (rw (
      c.as_bytes-block.ensures.value,
      c.format-in-BadSize.ensures.text,
      c.as_bytes-size.ensures.value,
      c.format-in-BadSize-2.ensures.text,
    )
    at c.put_pieces-in-BadSize.ensures)

pub returns-in-BadMagic : goal.returns-in-BadMagic
unfolding uf2_text
returns-in-BadMagic g c =
    puts_as (ap uf2_text (sym c.in-BadMagic.is))
    (rw (c.as_bytes-in-BadMagic.ensures.value, c.format-in-BadMagic.ensures.text) at c.put_pieces-in-BadMagic.ensures)

pub returns-in-BadLength : goal.returns-in-BadLength
unfolding uf2_text
returns-in-BadLength g c =
    puts_as (ap uf2_text (sym c.in-BadLength.is)) (rw (c.as_bytes.ensures.value, c.format.ensures.text) at c.put_pieces.ensures)

pub returns-in-PastEnd : goal.returns-in-PastEnd
unfolding uf2_text
returns-in-PastEnd g c = puts_as (ap uf2_text (sym c.in-PastEnd.is)) c.put_address.ensures

pub returns-in-Conflict : goal.returns-in-Conflict
unfolding uf2_text
returns-in-Conflict g c = puts_as (ap uf2_text (sym c.in-Conflict.is)) c.put_conflict.ensures
