-- `put_device`: its contract, `Puts`.
use Rattle.report_text.specs.Job.{device_line}
use Rattle.report_text.proofs.job.put_device.Goals as goal

pub returns : goal.returns
unfolding device_line
returns g c = rw (c.hex_digits-base.ensures, c.as_bytes-size.ensures.value, c.format.ensures.text) at c.put_pieces.ensures
