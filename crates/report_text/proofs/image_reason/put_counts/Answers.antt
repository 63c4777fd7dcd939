-- `put_counts`: its contract, `Puts`.
use Rattle.report_text.specs.Faults.{counts_text}
use Rattle.report_text.proofs.image_reason.put_counts.Goals as goal

pub returns : goal.returns
unfolding counts_text
returns g c =
    rw (c.as_bytes-said.ensures.value, c.format.ensures.text, c.as_bytes-seen.ensures.value, c.format-2.ensures.text)
    at c.put_pieces.ensures
