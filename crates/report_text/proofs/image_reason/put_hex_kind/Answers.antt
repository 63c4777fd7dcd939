-- `put_hex_kind`: its contract, `Puts`.
use Rattle.std.proofs.Common.{ap, sym}
use Rattle.outside_io.proofs.PutTexts.{puts_as}
use Rattle.report_text.specs.Faults.{hex_kind_text}
use Rattle.report_text.proofs.image_reason.put_hex_kind.Goals as goal

pub returns-in-OutOfMemory : goal.returns-in-OutOfMemory
unfolding hex_kind_text
returns-in-OutOfMemory g c = puts_as (ap hex_kind_text (sym c.in-OutOfMemory.is)) c.put_pieces-in-OutOfMemory.ensures

pub returns-in-BadType : goal.returns-in-BadType
unfolding hex_kind_text
returns-in-BadType g c = puts_as (ap hex_kind_text (sym c.in-BadType.is)) (rw c.from.ensures at c.put_number.ensures)

pub returns-in-NotRecord : goal.returns-in-NotRecord
unfolding hex_kind_text
returns-in-NotRecord g c = puts_as (ap hex_kind_text (sym c.in-NotRecord.is)) c.put_pieces.ensures

pub returns-in-BadDigit : goal.returns-in-BadDigit
unfolding hex_kind_text
returns-in-BadDigit g c = puts_as (ap hex_kind_text (sym c.in-BadDigit.is)) c.put_pieces-in-BadDigit.ensures

pub returns-in-BadLength : goal.returns-in-BadLength
unfolding hex_kind_text
returns-in-BadLength g c = puts_as (ap hex_kind_text (sym c.in-BadLength.is)) c.put_pieces-in-BadLength.ensures

pub returns-in-BadSum : goal.returns-in-BadSum
unfolding hex_kind_text
returns-in-BadSum g c = puts_as (ap hex_kind_text (sym c.in-BadSum.is)) c.put_checksum.ensures

pub returns-in-Conflict : goal.returns-in-Conflict
unfolding hex_kind_text
returns-in-Conflict g c = puts_as (ap hex_kind_text (sym c.in-Conflict.is)) c.put_conflict.ensures

pub returns-in-NoEnd : goal.returns-in-NoEnd
unfolding hex_kind_text
returns-in-NoEnd g c = puts_as (ap hex_kind_text (sym c.in-NoEnd.is)) c.put_pieces-in-NoEnd.ensures
