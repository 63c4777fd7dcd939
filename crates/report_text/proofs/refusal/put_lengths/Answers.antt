-- `put_lengths`: its contract, `Puts`.
use Rattle.report_text.specs.Lines.{reason_of}
use Rattle.report_text.proofs.refusal.put_lengths.Goals as goal

pub returns : goal.returns
unfolding reason_of
returns g c =
    rw (c.as_bytes-bytes.ensures.value, c.format.ensures.text, c.as_bytes-cells.ensures.value, c.format-2.ensures.text) at c.put_pieces.ensures
