-- The refusals of the top call, and the status of each.
use Rattle.std.specs.Prelude.{ℕ, List}
use Rattle.algo_calls.specs.declared.call.Call.{Call}
use Rattle.algo_calls.specs.declared.call.CallEnd.{CallEnd}
use Rattle.board_file.specs.declared.fault.BoardFault.{BoardFault}
use Rattle.flm_descriptor.specs.declared.fault.FlmFault.{FlmFault}
use Rattle.image_set.specs.declared.fault.ImageFault.{ImageFault}
use Rattle.image_more.specs.declared.fault.AnyFault.{AnyFault}

pub data Refusal : Type 0 where
  out_of_memory : Refusal
  usage : Refusal
  -- an input file could not be taken
  input_fault : (name : List ℕ) → Refusal
  -- a raw image has more bytes than there are cells
  image_too_long : (bytes cells : ℕ) → Refusal
  -- a file of an image was refused
  image_refused : (name : List ℕ) (fault : AnyFault) → Refusal
  -- the image has no byte, or one outside the device
  image_misplaced : (fault : ImageFault) → Refusal
  -- an FLM file was refused
  flm_refused : (fault : FlmFault) → Refusal
  -- an FLM file is for a device with another base or size than the region's
  other_device : (base size : ℕ) → Refusal
  -- the algorithm needs more bytes than the RAM has
  no_room : (need have : ℕ) → Refusal
  -- the text of a board was refused
  board_refused : (fault : BoardFault) → Refusal
  -- the job file stands for a job already
  job_open : Refusal
  -- the job file is free
  no_job : Refusal
  -- the job file is neither free nor damaged nor stands for a job
  not_a_job : (at : ℕ) → Refusal
  -- the job file keeps another hash than was found
  damaged : (kept found : List ℕ) → Refusal
  -- the bench has another number of cells than the regions
  cells_differ : (wanted found : ℕ) → Refusal
  store_fault : Refusal
  device_fault : Refusal
  output_fault : Refusal
  -- a call of the algorithm didn't end as done
  call_failed : (number : ℕ) (call : Call) (end : CallEnd) → Refusal
  -- once all calls were done, the cell at this address isn't as wanted
  mismatch : (at wanted found : ℕ) → Refusal
  -- a cell isn't the image's byte at this place
  differs : (place wanted found : ℕ) → Refusal

abbrev pub status_of : Refusal → ℕ
status_of out_of_memory = 1
status_of usage = 2
status_of (input_fault name) = 3
status_of (image_too_long bytes cells) = 4
status_of (image_refused name fault) = 4
status_of (image_misplaced fault) = 4
status_of (flm_refused fault) = 5
status_of (other_device base size) = 5
status_of (no_room need have) = 5
status_of (board_refused fault) = 6
status_of job_open = 7
status_of no_job = 7
status_of (not_a_job at) = 7
status_of (damaged kept found) = 7
status_of (cells_differ wanted found) = 7
status_of store_fault = 8
status_of device_fault = 9
status_of output_fault = 10
status_of (call_failed number call end) = 11
status_of (mismatch at wanted found) = 12
status_of (differs place wanted found) = 13
