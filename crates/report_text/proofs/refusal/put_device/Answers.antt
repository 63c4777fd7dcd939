-- `put_device`: its contract, `Puts`.
use Rattle.report_text.specs.Lines.{reason_of}
use Rattle.report_text.proofs.refusal.put_device.Goals as goal

pub returns : goal.returns
unfolding reason_of
returns g c = rw (c.hex_digits-base.ensures, c.as_bytes-size.ensures.value, c.format.ensures.text) at c.put_pieces.ensures
