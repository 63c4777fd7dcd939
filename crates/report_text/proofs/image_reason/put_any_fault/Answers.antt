-- `put_any_fault`: its contract, `Puts`.
use Rattle.std.proofs.Common.{ap, sym}
use Rattle.outside_io.proofs.PutTexts.{puts_as, puts_then, puts_stops, puts_failed}
use Rattle.report_text.specs.Faults.{any_text}
use Rattle.report_text.proofs.image_reason.put_any_fault.Goals as goal

pub returns-in_err-put_pieces-in-Uf2 : goal.returns-in_err-put_pieces-in-Uf2
unfolding any_text
returns-in_err-put_pieces-in-Uf2 g c =
    puts_as (ap any_text (sym c.in-Uf2.is)) (puts_failed _ c.from_residual.ensures.0 (puts_stops _ c.in_err-put_pieces-in-Uf2.ensures))

pub returns-in-OutOfMemory : goal.returns-in-OutOfMemory
unfolding any_text
returns-in-OutOfMemory g c = puts_as (ap any_text (sym c.in-OutOfMemory.is)) c.put_pieces-in-OutOfMemory.ensures

pub returns-in_ok-put_pieces-in-Uf2 : goal.returns-in_ok-put_pieces-in-Uf2
unfolding any_text
returns-in_ok-put_pieces-in-Uf2 g c = puts_as (ap any_text (sym c.in-Uf2.is)) (puts_then _ c.in_ok-put_pieces-in-Uf2.ensures c.put_uf2_fault.ensures)

pub returns-in-Image : goal.returns-in-Image
unfolding any_text
returns-in-Image g c = puts_as (ap any_text (sym c.in-Image.is)) c.put_image_fault.ensures
