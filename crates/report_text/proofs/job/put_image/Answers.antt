-- `put_image`: its contract, `Puts`.
use Rattle.report_text.specs.Job.{image_line}
use Rattle.report_text.proofs.job.put_image.Goals as goal

pub returns : goal.returns
unfolding image_line
returns g c =
    rw (c.as_bytes-bytes.ensures.value, c.format.ensures.text, c.bytes_in.ensures, c.as_bytes-runs.ensures.value, c.format-2.ensures.text, c.runs.ensures.count)
    at c.put_pieces.ensures
