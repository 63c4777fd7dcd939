-- `put_number`: its contract, `Puts`.
use Rattle.report_text.proofs.reason.put_number.Goals as goal

pub returns : goal.returns
returns g c = rw (c.as_bytes.ensures.value, c.format.ensures.text) at c.put_pieces.ensures
