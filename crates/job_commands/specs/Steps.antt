-- What the steps of the work on a job answer.
use Rattle.std.specs.Prelude.{◌≡◌, ◌⊎◌, ◌≤◌, ◌<◌, ◌↔◌, ℕ, Bool, true, false, List}
use Rattle.bench_model.specs.State.{cells_half}
use Rattle.bench_model.specs.History.{Leaves}
use Rattle.bench_model.specs.Pairs.{PairsInTurn}
use Rattle.board_file.specs.Shown as board
use Rattle.job_text.specs.Said.{algorithms_shown}
use Rattle.job_text.specs.Files.{IsFree, IsWhole}
use Rattle.job_text.specs.Body.{Job}
use Rattle.job_text.specs.Jobs.{IsJob}
use Rattle.job_text.specs.Parts.{job_of, AreParts}
use Rattle.job_text.specs.declared.job.Job as code
use Rattle.job_text.specs.declared.parts.JobParts.{JobParts}
use Rattle.campaign.specs.Stops.{IsUntouched, IsAtClose}
use Rattle.flash_session.specs.declared.goal.Goal.{Goal}
use Rattle.flash_session.specs.declared.goal.Goal.TheVariants.{New}
use Rattle.flash_session.specs.Script.{Broken}
use Rattle.report_text.specs.Refusal.{Refusal, out_of_memory, job_open, no_job, not_a_job, damaged, cells_differ, store_fault, device_fault, output_fault}
use Rattle.report_text.specs.Refusal.{call_failed, mismatch}
use Rattle.command_files.specs.Call.{BenchCall, SinkCall, Answer, done, refused}
use Rattle.command_files.specs.Said.{TookNothing, TookAll, TookPart}
use Rattle.command_files.specs.Answered.{store, device, output, IsCounted, IsUnless}
use Rattle.job_commands.specs.Answers.{has_no_close}
use Rattle.job_commands.specs.Work.{Work, body, Fails, Misses, Breaks, IsOnPath, KeepsDuties, IsOutsidePlanAsSurveyed}
use Rattle.job_commands.specs.Carry.{HasJob, HasReached, HasClosed, Carries, done_text}
use Rattle.job_commands.specs.GoOn.{work_to}
use Rattle.job_commands.specs.Beginning.{OverFile}
use Rattle.job_commands.specs.Begin.{BeginsAlone}

-- Which refusals each step has.

-- the refusals of the script and of what follows it: none of them refuses the file
abbrev pub has_script : Refusal → Bool
has_script store_fault = true
has_script device_fault = true
has_script output_fault = true
has_script (call_failed number call end) = true
has_script (mismatch at wanted found) = true
has_script _ = false

-- the refusals of a step that begins a job
abbrev pub has_start : Refusal → Bool
has_start out_of_memory = true
has_start job_open = true
has_start (not_a_job at) = true
has_start (damaged kept found) = true
has_start (cells_differ wanted found) = true
has_start store_fault = true
has_start device_fault = true
has_start _ = false

-- the refusals of a step that begins a job and prints that it did
abbrev pub has_alone : Refusal → Bool
has_alone output_fault = true
has_alone refusal = has_start refusal

-- the refusals of a step that begins a job and carries it
abbrev pub has_work : Refusal → Bool
has_work output_fault = true
has_work (call_failed number call end) = true
has_work (mismatch at wanted found) = true
has_work refusal = has_start refusal

-- After a job was begun, a file that is free again isn't that job: it is refused as no job at offset 0. No bench that tells its contents
-- comes to this.
abbrev pub begun : Answer → Answer
begun (refused no_job) = refused (not_a_job 0)
begun answer = answer

-- the counts of faults of the bench and of `out`, for an answer
pub record BenchCounted (bench : BenchCall) (out : SinkCall) (answer : Answer) : Type 0 where
  pub store_count : IsCounted bench.before.store_faults bench.after.store_faults store answer
  pub device_count : IsCounted bench.before.device_faults bench.after.device_faults device answer
  pub out_count : IsCounted out.before.faults out.after.faults output answer

-- The work of a session.

-- the work to a goal on the job of a session, with this job as text and these cells as surveyed
abbrev pub session_work : Goal → code.Job → Job → List ℕ → Work
session_work goal j text cells = work_to goal text (board.shown j.board) (algorithms_shown j.algorithms) cells

-- When each answer comes from the script on, where the plans were printed before.
abbrev pub FinishComes : BenchCall → SinkCall → Work → Broken → Answer → Type 0
FinishComes bench out w broken done = HasClosed bench.after w broken × TookAll out done_text
FinishComes bench out w broken (refused store_fault) = ((HasJob bench.after w × Breaks w broken bench.after)
    ⊎ ((HasJob bench.after w ⊎ IsFree bench.after.file) × HasReached bench.after w broken)) × TookNothing out
FinishComes bench out w broken (refused device_fault) = HasJob bench.after w × Breaks w broken bench.after × TookNothing out
FinishComes bench out w broken (refused output_fault) = HasClosed bench.after w broken × TookPart out done_text
FinishComes bench out w broken (refused (call_failed number call end)) = HasJob bench.after w
    × Fails w broken number call end bench.after.cells × TookNothing out
FinishComes bench out w broken (refused (mismatch at wanted found)) = HasJob bench.after w × Misses w broken at wanted found bench.after.cells × TookNothing out
FinishComes bench out w broken (refused _) = ⊥

pub record Finishes (bench : BenchCall) (out : SinkCall) (w : Work) (answer : Answer) : Type 0 where
  pub broken : Broken
  pub comes : FinishComes bench out w broken answer
  pub closing : ℕ
  pub pairs : PairsInTurn bench.before bench.after closing (λ f c. IsWhole (body w) f) (IsAtClose (body w) w.goal)
  pub no_close : has_no_close answer ≡ true → bench.after.moment < closing
  pub files_past : (k : ℕ) (f : List ℕ) → k ≤ bench.before.moment → bench.after.files_at k f ↔ bench.before.files_at k f
  pub path : Leaves (cells_half bench.before) (cells_half bench.after) (IsOnPath w broken)
  pub local : KeepsDuties w → Leaves (cells_half bench.before) (cells_half bench.after) (IsOutsidePlanAsSurveyed w)
  pub complete : KeepsDuties w → IsUnless answer done

-- A job of these parts is begun, with `text` printed then; the answer is decided by what the file is.
abbrev pub StartsParts : BenchCall → SinkCall → List ℕ → JobParts → Answer → Type 0
StartsParts bench out text parts answer = OverFile bench out parts.size answer (AreParts parts) (λ are.
    (snapshot : List ℕ) × IsJob (job_of parts snapshot) are.board are.algorithms × BeginsAlone bench out text (job_of parts snapshot) answer)

-- A job of these parts is begun, and carried to its image; the answer is decided by what the file is.
abbrev pub BeginsParts : BenchCall → SinkCall → JobParts → Answer → Type 0
BeginsParts bench out parts answer = OverFile bench out parts.size answer (AreParts parts) (λ are.
    (snapshot : List ℕ) × IsJob (job_of parts snapshot) are.board are.algorithms
    × Carries bench out (IsUntouched bench.before) (work_to New (job_of parts snapshot) are.board are.algorithms snapshot) answer)
