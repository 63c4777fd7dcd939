-- The text of the job in a file.
use Rattle.std.specs.Prelude.{ℕ, List, [], ◌∷◌, ◌++◌, map, length, sum_by, codes, decimal, Option, Some, None}
use Rattle.std.specs.List.{flat_map}
use Rattle.octets.specs.Digit.{hex_text}
use Rattle.byte_map.specs.Image.{Run}
use Rattle.flm_descriptor.specs.declared.device.Device.{Device}
use Rattle.flm_descriptor.specs.declared.algorithm.Algorithm.{Algorithm}
use Rattle.job_text.specs.declared.job.Job.{Job}
use Rattle.report_text.specs.Inspection.{text_of_lines}

-- how many bytes the runs of an image have
abbrev pub bytes_in : List Run → ℕ
bytes_in image = sum_by (λ (r : Run). length r.bytes) image

-- the line of a device: its base and its size
unfoldable pub device_line : Device → List ℕ
device_line device = text_of_lines ((codes "device " ∷ hex_text 8 device.base ∷ codes " " ∷ decimal device.size ∷ []) ∷ [])

-- the line of an image: how many bytes it has, in how many runs
unfoldable pub image_line : List Run → List ℕ
image_line image = text_of_lines ((codes "image " ∷ decimal (bytes_in image) ∷ codes " bytes in " ∷ decimal (length image) ∷ codes " runs" ∷ []) ∷ [])

-- the text where the file stands for a job: a line for the device of each region in turn, and one for the image
unfoldable pub job_text : List Device → List Run → List ℕ
job_text devices image = codes "job open\n" ++ flat_map device_line devices ++ image_line image

-- the devices of a job's regions
abbrev pub devices_of : Job → List Device
devices_of job = map (λ (algorithm : Algorithm). algorithm.device) job.algorithms

-- the text where the file stands for no job
abbrev pub no_job_text : List ℕ
no_job_text = codes "job none\n"

abbrev pub status_text : Option Job → List ℕ
status_text (Some job) = job_text (devices_of job) job.image
status_text None = no_job_text
