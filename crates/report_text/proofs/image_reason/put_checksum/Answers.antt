-- `put_checksum`: its contract, `Puts`.
use Rattle.report_text.specs.Faults.{checksum_text}
use Rattle.report_text.proofs.image_reason.put_checksum.Goals as goal

pub returns : goal.returns
unfolding checksum_text
returns g c = rw (c.hex_digits-said.ensures, c.hex_digits-due.ensures, c.from.ensures, c.from-2.ensures) at c.put_pieces.ensures
