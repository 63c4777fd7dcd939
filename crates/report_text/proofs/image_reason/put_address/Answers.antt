-- `put_address`: its contract, `Puts`.
use Rattle.report_text.proofs.image_reason.put_address.Goals as goal

pub returns : goal.returns
returns g c = rw c.hex_digits-address.ensures at c.put_pieces.ensures
