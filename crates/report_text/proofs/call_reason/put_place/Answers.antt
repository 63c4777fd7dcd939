-- `put_place`: its contract, `Puts`.
use Rattle.report_text.specs.Calls.{place_text}
use Rattle.report_text.proofs.call_reason.put_place.Goals as goal

pub returns : goal.returns
unfolding place_text
returns g c = rw c.hex_digits-pc.ensures at c.put_pieces.ensures
