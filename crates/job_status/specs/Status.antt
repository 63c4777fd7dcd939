-- What `status` answers.
use Rattle.std.specs.Prelude.{◌≡◌, ◌≢◌, ◌⊎◌, ℕ, IsTrue, List, [], map, sum_by, true, Bool, false}
use Rattle.bench_model.specs.Calls.{OnlyReads}
use Rattle.byte_map.specs.Image.{Run}
use Rattle.board_file.specs.Limits.{size_of}
use Rattle.flm_descriptor.specs.declared.device.Device.{Device}
use Rattle.flm_descriptor.specs.Shown as flm
use Rattle.job_text.specs.Files.{IsFree}
use Rattle.job_text.specs.Stands.{IsSomeJob, IsNotAJob, IsDamaged}
use Rattle.job_file.specs.Faults.{IsOtherSize}
use Rattle.report_text.specs.Job.{job_text, no_job_text}
use Rattle.report_text.specs.Refusal.{out_of_memory, not_a_job, damaged, cells_differ, store_fault, output_fault, Refusal}
use Rattle.command_files.specs.Inputs.{InputsCall, TakesNothing}
use Rattle.command_files.specs.Call.{BenchCall, SinkCall, Answer, done, refused}
use Rattle.command_files.specs.Said.{TookNothing, TookAll, TookPart, SaysText}
use Rattle.command_files.specs.Answered.{yields, Refuses, on_job_file, EndsLawfully}

-- What goes to `out`.

-- the whole text where done, a beginning of it where `out` fails, or nothing with an answer that yields
abbrev pub IsSaid : SinkCall → List ℕ → Answer → Type 0
IsSaid out text done = TookAll out text
IsSaid out text (refused output_fault) = TookPart out text
IsSaid out text (refused refusal) = (yields (refused refusal) ≡ true) × TookNothing out

-- When each answer of `status` comes, and what goes to `out` with it. What is said of the file holds where the bench tells its contents.

-- the file is free, and the text for no job went to `out`
pub record SaysNone (bench : BenchCall) (out : SinkCall) (answer : Answer) : Type 0 where
  pub free : IsTrue bench.tells → IsFree bench.before.file
  pub says : SaysText out no_job_text answer

-- the devices of algorithms, one for each region of the board
abbrev pub devices_of : List flm.Shown → List Device
devices_of algorithms = map (λ (algorithm : flm.Shown). algorithm.device) algorithms

-- the file stands for a job with these devices and this image
pub record IsJobWith (devices : List Device) (image : List Run) (file : List ℕ) : Type 0 where
  pub some : IsSomeJob file
  pub devices_are : devices_of some.algorithms ≡ devices
  pub image_is : some.job.image ≡ image

-- the file stands for a job for as many cells as the bench has, and the text of that job went to `out`
pub record SaysJob (bench : BenchCall) (out : SinkCall) (answer : Answer) : Type 0 where
  pub devices : List Device
  pub image : List Run
  pub size : sum_by (λ (device : Device). device.size) devices ≡ bench.before.cell_count
  pub stands : IsTrue bench.tells → IsJobWith devices image bench.before.file
  pub says : SaysText out (job_text devices image) answer

abbrev pub ComesOfJobFile : BenchCall → SinkCall → Answer → Type 0
ComesOfJobFile bench out (refused out_of_memory) = TookNothing out
ComesOfJobFile bench out (refused store_fault) = TookNothing out
ComesOfJobFile bench out (refused (not_a_job at)) = (IsTrue bench.tells → IsNotAJob at bench.before.file) × TookNothing out
ComesOfJobFile bench out (refused (damaged kept found)) =
    (kept ≢ found) × ((IsTrue bench.tells → IsDamaged kept found bench.before.file) × TookNothing out)
ComesOfJobFile bench out (refused (cells_differ wanted found)) =
    (wanted ≢ found) × ((IsTrue bench.tells → IsOtherSize bench.before.file bench.before.cell_count wanted found) × TookNothing out)
ComesOfJobFile bench out (refused output_fault) = SaysNone bench out (refused output_fault) ⊎ SaysJob bench out (refused output_fault)
ComesOfJobFile bench out (refused _) = ⊥
ComesOfJobFile bench out done = SaysNone bench out done ⊎ SaysJob bench out done

-- The other direction: what `status` must answer, by what the file is.
pub record IsDueForJobFile (bench : BenchCall) (out : SinkCall) (answer : Answer) : Type 0 where
  pub free : IsFree bench.before.file → IsSaid out no_job_text answer
  pub not_job : (at : ℕ) → IsNotAJob at bench.before.file → Refuses (TookNothing out) answer (not_a_job at)
  pub is_damaged : (kept found : List ℕ) → IsDamaged kept found bench.before.file → Refuses (TookNothing out) answer (damaged kept found)
  pub other_size : (some : IsSomeJob bench.before.file) → size_of some.board.regions ≢ bench.before.cell_count
      → Refuses (TookNothing out) answer (cells_differ (size_of some.board.regions) bench.before.cell_count)
  pub stands : (some : IsSomeJob bench.before.file) → size_of some.board.regions ≡ bench.before.cell_count
      → IsSaid out (job_text (devices_of some.algorithms) some.job.image) answer

-- Which refusals `status` has.
abbrev pub has_status : Refusal → Bool
has_status out_of_memory = true
has_status (not_a_job at) = true
has_status (damaged kept found) = true
has_status (cells_differ wanted found) = true
has_status store_fault = true
has_status output_fault = true
has_status _ = false

-- The work of `status`: all but the status and the line on `err`. No input is taken, and the job file is only read. File and cells are as
-- they were, and a stop at any moment leaves only what a stop at entry may leave.
pub record StatusEnds (bench : BenchCall) (inputs : InputsCall) (out : SinkCall) (answer : Answer) : Type 0 where
  pub lawful : EndsLawfully on_job_file bench inputs out has_status [] answer
  pub takes : TakesNothing inputs
  pub reads : OnlyReads bench.tells bench.before bench.after
  pub comes : ComesOfJobFile bench out answer
  pub due : IsTrue bench.tells → IsDueForJobFile bench out answer
