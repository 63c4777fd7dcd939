-- The run of a demonstration: the job of a seed is begun, stopped, and resumed on what the loss of the power left.
use Rattle.std.specs.Prelude.{◌≡◌, ◌≢◌, ℕ, Bool, true, false, IsTrue, [], ◌∷◌, Option, Some, None}
use Rattle.outside_io.specs.State.{SinkState}
use Rattle.bench_model.specs.State.{BenchState, Left}
use Rattle.bench_model.specs.Loss.{IsAtRest, IsPicked, after_loss}
use Rattle.bench_model.specs.Shown as bench
use Rattle.bench_model.specs.Shown.{bench_of}
use Rattle.bench_model.specs.Act.{Act}
use Rattle.bench_model.specs.MemoryActs.{memory_acts}
use Rattle.bench_model.specs.Stopped.{stopped, IsSameBench, StopActs}
use Rattle.bench_model.specs.declared.memory.MemoryBench.{MemoryBench}
use Rattle.bench_model.specs.declared.pick.Pick.TheVariants.{Filled}
use Rattle.bench_model.specs.declared.stop.StopBench.{StopBench}
use Rattle.campaign.specs.Stops.{IsUntouched}
use Rattle.job_text.specs.declared.format.Format.TheVariants.{Second}
use Rattle.job_text.specs.Body.{Job}
use Rattle.job_text.specs.Jobs.{IsJob}
use Rattle.erase_planner.specs.Plans.{Chosen}
use Rattle.flash_session.specs.declared.goal.Goal.TheVariants.{New}
use Rattle.report_text.specs.Shown as refusal
use Rattle.report_text.specs.Refusal.{out_of_memory, store_fault, status_of}
use Rattle.report_text.specs.declared.refusal.Refusal.{Refusal}
use Rattle.command_files.specs.Inputs.{InputsCall, TakesNothing}
use Rattle.command_files.specs.Call.{bench_call, SinkCall, sink_call, Answer, done, refused}
use Rattle.command_files.specs.Answered.{IsOf}
use Rattle.job_commands.specs.Work.{Work, plan_in}
use Rattle.job_commands.specs.Carry.{Carries}
use Rattle.job_commands.specs.GoOn.{work_to, GoOnEnds}
use Rattle.job_text.specs.declared.parts.JobParts.{JobParts}
use Rattle.job_file.specs.First.{SyncsFirst}
use Rattle.job_commands.specs.Steps.{has_work, BenchCounted, BeginsParts}
use Rattle.demo_job.specs.Made.{cells_of, image_of, stop_of}
use Rattle.demo_job.specs.Fixture.{board_text, Fixture}

-- The state of a sink that keeps nothing, and a call on it.

abbrev pub silent : SinkState
silent = record { faults = 0; taken = [] }

abbrev pub silence : SinkCall
silence = sink_call false silent silent

-- The bench that a demonstration starts on: the cells that the seed makes, and an empty file. Nothing is pending, no operation is open,
-- and no fault was counted.
pub record IsFresh (seed : ℕ) (now : BenchState) : Type 0 where
  pub cells : now.cells ≡ cells_of seed
  pub file : now.file ≡ []
  pub rest : IsAtRest now
  pub store : now.store_faults ≡ 0
  pub device : now.device_faults ≡ 0

-- The job of a seed, with the cells that the seed makes as its snapshot, and the work on it.

abbrev pub job_of : ℕ → Fixture → Job
job_of seed t = record { format = Second; board = board_text; flms = t.file ∷ []; image = image_of seed; snapshot = cells_of seed }

abbrev pub work_of : ℕ → Fixture → Work
work_of seed t = work_to New (job_of seed t) t.board (t.algorithm ∷ []) (cells_of seed)

-- the plan of the one region of the board
abbrev pub plan_of : ℕ → Fixture → Chosen
plan_of seed t = (plan_in t.board 0 t.algorithm (cells_of seed) (work_of seed t).goal).plan

-- the state of a stopping bench in memory
abbrev pub stopping_of : StopBench MemoryBench → BenchState
stopping_of s = stopped bench_of s

-- The parts of the job of a seed, on a fixture.
pub record ArePartsOf (seed : ℕ) (t : Fixture) (parts : JobParts) : Type 0 where
  pub board : parts.board.now ≡ board_text
  pub flm : parts.flm.now ≡ t.file
  pub second : parts.second ≡ None
  pub image : parts.image.now ≡ image_of seed
  pub size : t.algorithm.device.size ≡ parts.size
  pub all : parts.size ≡ 65536

-- The job of a seed was begun over a bench that stops after as many calls as the seed says, and wraps the bench `fresh`. The first call
-- on it is the job's: it syncs the job file.
pub record BeginsOver {B : Type 0} (tells : Bool) (acts : B → Act → B → Type 0) (state : B → BenchState) (seed : ℕ) (t : Fixture) (fresh : B)
    (begun : StopBench B) (answer : Answer) : Type 0 where
  pub first : StopBench B
  pub inner : first.inner ≡ fresh
  pub calls : first.calls ≡ stop_of seed
  pub same : IsSameBench (state fresh) (stopped state first)
  pub syncs : SyncsFirst tells (stopped state) (StopActs acts) first begun (answer ≡ refused store_fault)
  pub parts : JobParts
  pub its_parts : ArePartsOf seed t parts
  pub begins : IsTrue tells → BeginsParts (bench_call tells (stopped state first) (stopped state begun)) silence parts answer
  pub kind : IsOf has_work answer
  pub counts : BenchCounted (bench_call tells (stopped state first) (stopped state begun)) silence answer

-- The job was begun over a bench that stops after as many calls as the seed says, with no fault of its own yet. It was carried on until
-- it ended or was stopped by a fault that this bench counted; it didn't run out of memory. Then the power was lost.
pub record IsLost (seed : ℕ) (t : Fixture) (fresh lost : MemoryBench) : Type 0 where
  pub first : StopBench MemoryBench
  pub inner : first.inner ≡ fresh
  pub calls : first.calls ≡ stop_of seed
  pub same : IsSameBench (bench_of fresh) (stopping_of first)
  pub begun : StopBench MemoryBench
  pub answer : Answer
  -- no call was made before the calls of the job, and the job's first call syncs the job file
  pub syncs : SyncsFirst true stopping_of (StopActs memory_acts) first begun (answer ≡ refused store_fault)
  pub is_job : IsJob (job_of seed t) t.board (t.algorithm ∷ [])
  pub carries : Carries (bench_call true (stopping_of first) (stopping_of begun)) silence (IsUntouched (stopping_of first)) (work_of seed t) answer
  pub kind : IsOf has_work answer
  pub counts : BenchCounted (bench_call true (stopping_of first) (stopping_of begun)) silence answer
  pub no_want : answer ≢ refused out_of_memory
  pub left : Left (bench_of begun.inner) (bench_of lost).file (bench_of lost).cells
  pub picked : IsPicked (Filled 0x5A) (bench.shown begun.inner) (bench.shown lost).file (bench.shown lost).cells
  pub rest : IsAtRest (bench_of lost)
  pub exact : bench.shown lost ≡ after_loss (bench.shown lost).file (bench.shown lost).cells (bench.shown begun.inner)

-- How a resume ended, as an answer and as a status.

abbrev pub answer_in : Option Refusal → Answer
answer_in None = done
answer_in (Some r) = refused (refusal.shown r)

abbrev pub status_in : Option Refusal → ℕ
status_in None = 0
status_in (Some r) = status_of (refusal.shown r)

-- a call of `resume` on a bench, with no sink and no inputs
abbrev pub Resumes : MemoryBench → MemoryBench → Option Refusal → Type 0
Resumes lost after end = (inputs : InputsCall) → TakesNothing inputs
    → GoOnEnds New (bench_call true (bench_of lost) (bench_of after)) inputs silence (answer_in end)
