-- When a call completes: with algorithms that keep their duties and no fault counted, it answers 0, or 1 if it ran out of memory.
use Rattle.std.specs.Prelude.{◌≡◌, ◌⊎◌, List, length}
use Rattle.faults.specs.Counts.{Rose}
use Rattle.flm_descriptor.specs.Shown as flm
use Rattle.algo_calls.specs.Duties.{AllServe}
use Rattle.job_text.specs.Files.{IsFree, IsWhole}
use Rattle.job_text.specs.Jobs.{IsJob}
use Rattle.command_words.specs.Files.{FilesAsked, Command, program, begin, resume, revert}
use Rattle.promise.specs.Job.{Job}
use Rattle.promise.specs.Texts.{SaysJob, IsOfFiles}
use Rattle.promise.specs.Promise.{Call}

-- No count of faults rose in the call.
pub record NoFault (call : Call) : Type 0 where
  pub store : Rose call.old.store_faults call.new.store_faults → ⊥
  pub device : Rose call.old.device_faults call.new.device_faults → ⊥
  pub input : Rose call.input_faults.before call.input_faults.after → ⊥
  pub output : Rose call.output_faults.before call.output_faults.after → ⊥

-- The texts of a job suit one another: it has an algorithm for each region of its board, and its image lies in the regions.
pub record IsRight (job : Job) (says : SaysJob job) : Type 0 where
  pub algorithms : List flm.Shown
  pub is_job : IsJob says.text says.board algorithms

-- The algorithms of a job keep their duties on its board.
abbrev pub KeepsDuties : Job → Type 0
KeepsDuties job = (says : SaysJob job) (right : IsRight job says) → AllServe says.board right.algorithms

-- The file stands for a job with as many cells as the bench has.
pub record IsReady (call : Call) (job : Job) : Type 0 where
  pub says : SaysJob job
  pub right : IsRight job says
  pub whole : IsWhole job.body call.old.file
  pub sized : length job.snapshot ≡ call.old.cell_count

-- The files of a command are right, and the job file is free for a job with as many cells as the bench has.
pub record IsReadyFor (call : Call) (asked : FilesAsked) (job : Job) : Type 0 where
  pub files : IsOfFiles call.file_under asked job
  pub right : IsRight job files.says
  pub free : IsFree call.old.file
  pub sized : length job.snapshot ≡ call.old.cell_count

-- A call completes: it answers 0, or 1 if it ran out of memory.
abbrev pub IsComplete : Call → Type 0
IsComplete call = (call.status ≡ 0) ⊎ (call.status ≡ 1)

-- What makes a call complete, by its command.
abbrev pub Completes : Command → Call → Type 0
Completes (program asked) call = (job : Job) → IsReadyFor call asked job → KeepsDuties job → NoFault call → IsComplete call
Completes (begin asked) call = (job : Job) → IsReadyFor call asked job → NoFault call → IsComplete call
Completes resume call = (job : Job) → IsReady call job → KeepsDuties job → NoFault call → IsComplete call
Completes revert call = (job : Job) → IsReady call job → KeepsDuties job → NoFault call → IsComplete call
Completes _ call = Unit {0}
