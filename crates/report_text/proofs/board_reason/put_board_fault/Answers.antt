-- `put_board_fault`: its contract, `Puts`.
use Rattle.std.proofs.Common.{ap, sym}
use Rattle.outside_io.proofs.PutTexts.{puts_as}
use Rattle.report_text.specs.Faults.{board_text}
use Rattle.report_text.proofs.board_reason.put_board_fault.Goals as goal

pub returns-in-ManyRegions : goal.returns-in-ManyRegions
unfolding board_text
returns-in-ManyRegions g c = puts_as (ap board_text (sym c.in-ManyRegions.is)) c.put_pieces-in-ManyRegions.ensures

pub returns-in-OutOfMemory : goal.returns-in-OutOfMemory
unfolding board_text
returns-in-OutOfMemory g c = puts_as (ap board_text (sym c.in-OutOfMemory.is)) c.put_pieces.ensures

pub returns-in-Overlap : goal.returns-in-Overlap
unfolding board_text
returns-in-Overlap g c =
    puts_as (ap board_text (sym c.in-Overlap.is))
    (rw (
      c.as_bytes-in-Overlap.ensures.value,
      c.text-in-Overlap.ensures,
      c.as_bytes-in-Overlap-2.ensures.value,
      c.text-in-Overlap-2.ensures,
    )
    at c.put_pieces-in-Overlap.ensures)

pub returns-in-TooBig : goal.returns-in-TooBig
unfolding board_text
returns-in-TooBig g c =
    puts_as (ap board_text (sym c.in-TooBig.is)) (rw (c.as_bytes-in-TooBig.ensures.value, c.text-in-TooBig.ensures) at c.put_pieces-in-TooBig.ensures)

pub returns-in-BadValue : goal.returns-in-BadValue
unfolding board_text
returns-in-BadValue g c =
    puts_as (ap board_text (sym c.in-BadValue.is)) (rw (c.as_bytes-in-BadValue.ensures.value, c.text-in-BadValue.ensures) at c.put_pieces-in-BadValue.ensures)

pub returns-in-Missing : goal.returns-in-Missing
unfolding board_text
returns-in-Missing g c =
    puts_as (ap board_text (sym c.in-Missing.is)) (rw (c.as_bytes.ensures.value, c.text.ensures) at c.put_pieces-in-Missing.ensures)

pub returns-in-NotToml : goal.returns-in-NotToml
unfolding board_text
returns-in-NotToml g c = puts_as (ap board_text (sym c.in-NotToml.is)) c.put_pieces-in-NotToml.ensures
