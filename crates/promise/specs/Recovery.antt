-- Recovery: a job that was begun is one that `resume` and `revert` accept. Wherever a stop left its file whole, they bring it to its
-- goal.
use Rattle.std.specs.Prelude.{◌≡◌, ◌⊎◌, ℕ, List, [], ◌∷◌, length}
use Rattle.job_text.specs.Files.{IsFree, IsWhole}
use Rattle.campaign.specs.Stops.{IsDone}
use Rattle.command_words.specs.Files.{FilesAsked, Command, program, begin, resume, revert}
use Rattle.promise.specs.Job.{Job, laid}
use Rattle.promise.specs.Texts.{SaysJob}
use Rattle.promise.specs.Promise.{Call, IsIdle, IsBegun, ProgramsJob, BeginsJob, TakesUp}
use Rattle.promise.specs.Complete.{NoFault, IsRight, KeepsDuties, IsComplete, Completes}
use Rattle.promise.specs.Campaign.{Later, command_to, goal_of, IsWithin, AllFollow, AllKeep}

-- A whole file of this job stands for the job. Its texts describe a board and, for each region, an algorithm that fits it. Its image lies
-- in the regions, and its snapshot has a byte for each of their cells. The bench has as many cells.
pub record IsTaken (call : Call) (job : Job) (says : SaysJob job) : Type 0 where
  pub right : IsRight job says
  pub sized : length job.snapshot ≡ call.old.cell_count

-- A call is refused, or keeps the promise of its command by a job that stands for its file.
abbrev pub Resumes : Command → Call → Type 0
Resumes (program asked) call = IsIdle call ⊎ ((it : ProgramsJob call asked) × IsTaken call it.job it.begun.files.says)
Resumes (begin asked) call = IsIdle call ⊎ ((it : BeginsJob call asked) × IsTaken call it.job it.begun.files.says)
Resumes resume call = IsIdle call ⊎ ((it : TakesUp call laid) × IsTaken call it.job it.carries.says)
Resumes revert call = IsIdle call ⊎ ((it : TakesUp call (λ job. job.snapshot)) × IsTaken call it.job it.carries.says)
Resumes _ call = Unit {0}

-- ---- many calls

-- The first call is one of `program` or `begin`, and a stop at its entry leaves only free files.
pub record IsFirstTaken (asked : FilesAsked) (first : Call) (end : ℕ) : Type 0 where
  pub keeps : Resumes (program asked) first ⊎ Resumes (begin asked) first
  pub free : (file : List ℕ) → first.old.files_at first.old.moment file → IsFree file
  pub within : IsWithin first end

-- Each later call completes, as its command does.
abbrev pub AllComplete : List Later → Type 0
AllComplete [] = Unit {0}
AllComplete (next ∷ rest) = Completes (command_to next.goal) next.call × AllComplete rest

-- Suppose that the job's file is whole at the entry, the number of cells is as before, the algorithms keep their duties, and no fault is
-- counted. Then the call answers 0, or 1 if it ran out of memory; with 0 the cells are the goal of the job that was begun.
abbrev pub Recovers : Job → ℕ → Later → Type 0
Recovers job count next = IsWhole job.body next.call.old.file → next.call.old.cell_count ≡ count → KeepsDuties job → NoFault next.call
    → IsComplete next.call × (next.call.status ≡ 0 → IsDone job.body (goal_of next.goal job) next.call.new)

abbrev pub AllRecover : Job → ℕ → List Later → Type 0
AllRecover job count [] = Unit {0}
AllRecover job count (next ∷ rest) = Recovers job count next × AllRecover job count rest

-- The first call, which ended or was stopped at the moment `end`, began one job, and each call that follows recovers it.
pub record IsRecoveredFrom (asked : FilesAsked) (first : Call) (end : ℕ) (later : List Later) : Type 0 where
  pub job : Job
  pub begun : IsBegun first asked job
  pub taken : IsTaken first job begun.files.says
  pub recovers : AllFollow job first.new end later → AllRecover job first.old.cell_count later

-- After any calls that keep the promise, each stopped at any moment or not, the job of the first call is recovered; or the first call was
-- refused.
abbrev pub AreRecovered : FilesAsked → Call → ℕ → List Later → Type 0
AreRecovered asked first end later = IsFirstTaken asked first end → AllKeep later → AllComplete later
    → IsIdle first ⊎ IsRecoveredFrom asked first end later
