-- `put_place`: its contract, `Puts`.
use Rattle.std.proofs.Common.{ap, sym}
use Rattle.outside_io.proofs.PutTexts.{puts_as}
use Rattle.report_text.specs.Faults.{place_text}
use Rattle.report_text.proofs.image_reason.put_place.Goals as goal

pub returns-in-Some : goal.returns-in-Some
unfolding place_text
returns-in-Some g c =
    puts_as (ap (place_text c.args.name.now) (sym c.in-Some.is)) (rw (c.as_bytes-line.ensures.value, c.format.ensures.text) at c.put_pieces-in-Some.ensures)

pub returns-in-None : goal.returns-in-None
unfolding place_text
returns-in-None g c = puts_as (ap (place_text c.args.name.now) (sym c.in-None.is)) c.put_pieces.ensures
