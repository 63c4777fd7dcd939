-- `put_count`: its contract, `Puts`.
use Rattle.report_text.specs.Inspection.{count_text}
use Rattle.report_text.proofs.inspection.put_count.Goals as goal

pub returns : goal.returns
unfolding count_text
returns g c = rw (c.as_bytes-count.ensures.value, c.format.ensures.text, c.sector_count.ensures) at c.put_pieces.ensures
