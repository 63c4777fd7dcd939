-- `put_offset`: its contract, `Puts`.
use Rattle.report_text.specs.Lines.{reason_of}
use Rattle.report_text.proofs.refusal.put_offset.Goals as goal

pub returns : goal.returns
unfolding reason_of
returns g c = rw (c.as_bytes-offset.ensures.value, c.format.ensures.text) at c.put_pieces.ensures
