-- What `resume` and `revert` answer: they continue the job in the file.
use Rattle.std.specs.Prelude.{◌≡◌, ◌≢◌, ℕ, IsTrue, List, [], Bool, true, false}
use Rattle.bench_model.specs.State.{Left}
use Rattle.board_file.specs.Limits.{size_of}
use Rattle.board_file.specs.Shown as board
use Rattle.flm_descriptor.specs.Shown as flm
use Rattle.job_text.specs.Files.{IsFree, IsWhole}
use Rattle.job_text.specs.Body.{Job, body_of}
use Rattle.job_text.specs.Jobs.{IsJob}
use Rattle.job_text.specs.Stands.{IsSomeJob, IsDamaged, IsNotAJob}
use Rattle.flash_session.specs.declared.goal.Goal.{Goal}
use Rattle.flash_session.specs.declared.goal.Goal.TheVariants.{New, Old}
use Rattle.job_text.specs.Laid.{overlaid}
use Rattle.report_text.specs.Refusal.{no_job, not_a_job, damaged, cells_differ, Refusal, out_of_memory, store_fault, device_fault, output_fault, call_failed}
use Rattle.report_text.specs.Refusal.{mismatch}
use Rattle.command_files.specs.Inputs.{InputsCall, TakesNothing}
use Rattle.command_files.specs.Call.{BenchCall, SinkCall, Call, Answer}
use Rattle.command_files.specs.Answered.{AnswersBy, EndsLawfully, Refuses, OnlyLooked, on_job_file}
use Rattle.job_commands.specs.Work.{Work, work_on}
use Rattle.job_commands.specs.Carry.{Carries}
use Rattle.job_commands.specs.Answers.{IsSound}
use Rattle.job_commands.specs.Printed.{PrintsWork}

-- the cells that a job must leave: its image laid over its snapshot (`New`), or its snapshot (`Old`)
abbrev pub goal_in : Goal → Job → board.Shown → List ℕ
goal_in New job b = overlaid job.image b.regions job.snapshot
goal_in Old job b = job.snapshot

-- the work on a job to this goal, with the cells as surveyed
abbrev pub work_to : Goal → Job → board.Shown → List flm.Shown → List ℕ → Work
work_to goal job b algorithms surveyed = work_on job b algorithms surveyed (goal_in goal job b)

-- What is answered, by what the file is. A file that is free, damaged or no job, or stands for a job with another number of cells, is
-- refused after a look alone. Any other job is carried to the goal.
pub record GoesOnFrom (goal : Goal) (bench : BenchCall) (out : SinkCall) (answer : Answer) : Type 0 where
  pub free : IsFree bench.before.file → Refuses (OnlyLooked bench out) answer no_job
  pub not_job : (at : ℕ) → IsNotAJob at bench.before.file → Refuses (OnlyLooked bench out) answer (not_a_job at)
  pub is_damaged : (kept found : List ℕ) → IsDamaged kept found bench.before.file → Refuses (OnlyLooked bench out) answer (damaged kept found)
  pub other_size : (some : IsSomeJob bench.before.file) → size_of some.board.regions ≢ bench.before.cell_count
      → Refuses (OnlyLooked bench out) answer (cells_differ (size_of some.board.regions) bench.before.cell_count)
  pub stands : (job : Job) (b : board.Shown) (algorithms : List flm.Shown) → IsJob job b algorithms → IsWhole (body_of job) bench.before.file
      → size_of b.regions ≡ bench.before.cell_count
      → (surveyed : List ℕ) × Carries bench out (Left bench.before) (work_to goal job b algorithms surveyed) answer

-- Which refusals `resume` and `revert` have.
abbrev pub has_resume : Refusal → Bool
has_resume out_of_memory = true
has_resume no_job = true
has_resume (not_a_job at) = true
has_resume (damaged kept found) = true
has_resume (cells_differ wanted found) = true
has_resume store_fault = true
has_resume device_fault = true
has_resume output_fault = true
has_resume (call_failed number call end) = true
has_resume (mismatch at wanted found) = true
has_resume _ = false

-- The work of `resume`, to the image, and of `revert`, to the snapshot: all but the status and the line on `err`.
pub record GoOnEnds (goal : Goal) (bench : BenchCall) (inputs : InputsCall) (out : SinkCall) (answer : Answer) : Type 0 where
  pub lawful : EndsLawfully on_job_file bench inputs out has_resume [] answer
  pub takes : TakesNothing inputs
  pub sound : IsSound answer
  pub prints : PrintsWork bench.before.cell_count out answer
  pub told : IsTrue bench.tells → GoesOnFrom goal bench out answer

-- a call of `resume` or `revert`, with its status and its line on `err`
abbrev pub GoOnAnswers : Goal → Call → Type 0
GoOnAnswers goal call = AnswersBy call (GoOnEnds goal)
