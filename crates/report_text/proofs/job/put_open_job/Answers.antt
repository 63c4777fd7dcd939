-- `put_open_job`: its contract, `Puts`.
use Rattle.std.specs.List.{flat_map}
use Rattle.report_text.specs.Job.{device_line, devices_of, image_line, job_text}
use Rattle.outside_io.proofs.PutTexts.{puts_as, puts_then, puts_stops, puts_failed}
use Rattle.report_text.proofs.JobLemmas.{devices_text}
use Rattle.report_text.proofs.job.put_open_job.Goals as goal

pub returns-in_err-put_pieces : goal.returns-in_err-put_pieces
unfolding job_text
returns-in_err-put_pieces g c = puts_failed _ c.from_residual.ensures.0
    (puts_stops (image_line c.args.job.now.image) (puts_stops (flat_map device_line (devices_of c.args.job.now)) c.in_err-put_pieces.ensures))

pub returns-in_err-put_devices : goal.returns-in_err-put_devices
unfolding job_text
returns-in_err-put_devices g c = puts_failed _ c.from_residual-in_err-put_devices.ensures.0
    (puts_stops (image_line c.args.job.now.image) (puts_then _ c.in_ok-put_pieces.ensures
    (puts_as (devices_text _ _ c.as_slice.ensures) c.in_err-put_devices.ensures)))

pub returns : goal.returns
unfolding job_text
returns g c = puts_then _ (puts_then _ c.in_ok-put_pieces.ensures (puts_as (devices_text _ _ c.as_slice.ensures) c.in_ok-put_devices.ensures))
    c.put_image.ensures
