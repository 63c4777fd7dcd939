-- `put_item`: its contract, `Puts`.
use Rattle.report_text.specs.Inspection.{item_text}
use Rattle.report_text.proofs.inspection.put_item.Goals as goal

pub returns : goal.returns
unfolding item_text
returns g c = rw (c.hex_digits-offset.ensures, c.as_bytes-size.ensures.value, c.format.ensures.text) at c.put_pieces.ensures
