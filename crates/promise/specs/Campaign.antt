-- Many calls: one of `program` or `begin`, followed by calls of `resume` and `revert`. Each of them may be stopped at any moment.
use Rattle.std.specs.Prelude.{◌≡◌, ◌≢◌, ◌≤◌, ◌<◌, ◌⊎◌, ℕ, List, [], ◌∷◌, Option, None}
use Rattle.bench_model.specs.State.{BenchState, Left}
use Rattle.job_text.specs.Files.{IsFree, IsWhole}
use Rattle.campaign.specs.Stops.{IsAtClose, HasNoClose, IsDone, IsTold, IsEntered, last_at, IsSafe}
use Rattle.flash_session.specs.declared.goal.Goal.{Goal}
use Rattle.flash_session.specs.declared.goal.Goal.TheVariants.{New, Old}
use Rattle.command_words.specs.Files.{FilesAsked, Command, program, begin, resume, revert}
use Rattle.promise.specs.Job.{Job, laid, campaign_job}
use Rattle.promise.specs.Promise.{Call, AtEachStop, IsIdle, IsBegun, KeepsPromise}

-- A later call, of `resume` or `revert`: the call as it would be if no stop ended it, and the moment at which it ended or was stopped.
pub record Later : Type 1 where
  pub goal : Goal
  pub call : Call
  pub end : ℕ

-- The command of a later call, by its goal.
abbrev pub command_to : Goal → Command
command_to New = resume
command_to Old = revert

-- The cells that a later call must leave, by its goal.
abbrev pub goal_of : Goal → Job → List ℕ
goal_of New job = laid job
goal_of Old job = job.snapshot

-- A call ended or was stopped at a moment between its entry and its exit.
abbrev pub IsWithin : Call → ℕ → Type 0
IsWithin call end = (call.old.moment ≤ end) × (end ≤ call.new.moment)

-- Each call is entered with what the one before it left at its end. While the file stands for the job, the cells may change by
-- themselves.
abbrev pub AllFollow : Job → BenchState → ℕ → List Later → Type 0
AllFollow job new end [] = Unit {0}
AllFollow job new end (next ∷ rest) =
    IsEntered (campaign_job job) new end next.call.old × IsWithin next.call next.end × AllFollow job next.call.new next.end rest

-- Each later call keeps the promise of its command.
abbrev pub AllKeep : List Later → Type 0
AllKeep [] = Unit {0}
AllKeep (next ∷ rest) = KeepsPromise (command_to next.goal) next.call × AllKeep rest

-- A later call is safe. `closing` is the moment of its close, which may be after its end. A stop leaves one of three things: the device
-- untouched; the job whole; or the job closed, with the goal of the last call that had reached its close by then. Before the close a stop
-- leaves what one at the entry may leave, or the job whole; from the close on the cells are the goal. On a free file, or with status 1,
-- 9, 11 or 12, the call never reaches its close. With status 0, its file was whole at the entry, and it left its own goal.
pub record IsSafeCall (start : BenchState) (job : Job) (last : Option (List ℕ)) (next : Later) (closing : ℕ) : Type 0 where
  pub stopped : IsSafe start (campaign_job job) last next.call.old next.call.new closing (goal_of next.goal job)
  pub before : AtEachStop next.call (λ moment file cells. moment < closing → Left next.call.old file cells ⊎ IsWhole job.body file)
  pub from : AtEachStop next.call (λ moment file cells. closing ≤ moment → IsAtClose job.body (goal_of next.goal job) file cells)
  pub free : IsFree next.call.old.file → next.call.new.moment < closing
  pub no_close : HasNoClose next.call.status → next.call.new.moment < closing
  pub done : next.call.status ≡ 0 → IsWhole job.body next.call.old.file × IsDone job.body (goal_of next.goal job) next.call.new

-- Each later call is safe, with a moment of its own for its close.
abbrev pub AllSafe : BenchState → Job → Option (List ℕ) → List Later → Type 0
AllSafe start job last [] = Unit {0}
AllSafe start job last (next ∷ rest) = (closing : ℕ)
    × IsSafeCall start job last next closing
    × AllSafe start job (last_at last closing (goal_of next.goal job) next.end) rest

-- The first call, which ended or was stopped at the moment `end`, began one job, and this call and those that follow are safe. From the
-- moment of its close on, the cells are the goal. With status 1, 9, 11 or 12 that moment never comes.
pub record IsSafeFrom (asked : FilesAsked) (first : Call) (end : ℕ) (later : List Later) : Type 0 where
  pub job : Job
  pub begun : IsBegun first asked job
  pub closing : ℕ
  pub stopped : IsSafe first.old (campaign_job job) None first.old first.new closing (laid job)
  pub from : AtEachStop first (λ moment file cells. closing ≤ moment → IsAtClose job.body (laid job) file cells)
  pub no_close : HasNoClose first.status → first.new.moment < closing
  pub safe : AllFollow job first.new end later → AllSafe first.old job (last_at None closing (laid job) end) later

-- Each call is entered with what the one before it left at its end.
abbrev pub AllEnter : BenchState → ℕ → List Later → Type 0
AllEnter new end [] = Unit {0}
AllEnter new end (next ∷ rest) =
    IsTold next.call.old × ((file cells : List ℕ) → Left next.call.old file cells → new.files_at end file × new.cells_at end cells)
    × IsWithin next.call next.end × AllEnter next.call.new next.end rest

-- No later call answers 0, and a stop in it leaves only what a stop at the state `start` may leave.
abbrev pub AllIdle : BenchState → List Later → Type 0
AllIdle start [] = Unit {0}
AllIdle start (next ∷ rest) = (next.call.status ≢ 0) × AtEachStop next.call (λ moment file cells. Left start file cells) × AllIdle start rest

-- The first call, which ended or was stopped at the moment `end`, was refused: no job was begun, and the calls that follow do nothing.
pub record IsIdleFrom (first : Call) (end : ℕ) (later : List Later) : Type 0 where
  pub refused : IsIdle first
  pub idle : AllEnter first.new end later → AllIdle first.old later

-- The first call is one of `program` or `begin`, and a stop at its entry leaves only free files.
pub record IsFirst (asked : FilesAsked) (first : Call) (end : ℕ) : Type 0 where
  pub keeps : KeepsPromise (program asked) first ⊎ KeepsPromise (begin asked) first
  pub free : (file : List ℕ) → first.old.files_at first.old.moment file → IsFree file
  pub within : IsWithin first end

-- Calls that keep the promise are safe together, or the first of them was refused and none of them does anything.
abbrev pub AreSafe : FilesAsked → Call → ℕ → List Later → Type 0
AreSafe asked first end later = IsFirst asked first end → AllKeep later → IsIdleFrom first end later ⊎ IsSafeFrom asked first end later
