-- What a call of the programmer promises: what its status 0 means, and what a stop of the power leaves at any moment in it.
use Rattle.std.specs.Prelude.{◌≡◌, ◌≢◌, ◌≤◌, ◌<◌, ◌+◌, ◌==◌, ◌⊎◌, ◌↔◌, ℕ, Bool, IsTrue, All, List, [], ◌∷◌, ◌++◌}
use Rattle.std.specs.Prelude.{codes, Option, None, if◌then◌else◌}
use Rattle.std.specs.List.{flat_map}
use Rattle.bench_model.specs.declared.bench.Bench.{Ghosts}
use Rattle.bench_model.specs.State.{BenchState, Left, SameOutside}
use Rattle.job_text.specs.declared.format.Format.TheVariants.{Second}
use Rattle.job_text.specs.Files.{IsFree, IsWhole}
use Rattle.report_text.specs.DoneLine.{target_head, done_line}
use Rattle.campaign.specs.Stops.{IsUntouched, IsAtClose, HasNoClose, IsDone}
use Rattle.command_words.specs.Files.{FilesAsked, Command, program, begin, resume, revert}
use Rattle.promise.specs.Job.{Job, laid}
use Rattle.promise.specs.Texts.{SaysJob, IsOfFiles}

-- How many faults of one kind were counted at the entry of a call and at its exit.
pub record FaultCounts : Type 0 where
  pub before : ℕ
  pub after : ℕ

abbrev pub fault_counts : ℕ → ℕ → FaultCounts
fault_counts before after = record { before = before; after = after }

-- A call: the file under each name; the job file, the cells and the counts of faults at its entry and at its exit; and the status that it
-- answers.
pub record Call : Type 1 where
  pub file_under : List ℕ → Option (List ℕ)
  pub old : BenchState
  pub new : BenchState
  pub input_faults : FaultCounts
  pub output_faults : FaultCounts
  pub status : ℕ

-- `Holds` is true of each moment of the call, with each file and the cells beside it that a stop of the power may leave then.
abbrev pub AtEachStop : Call → (ℕ → List ℕ → List ℕ → Type 0) → Type 0
AtEachStop call Holds = (moment : ℕ) (file cells : List ℕ) → call.old.moment ≤ moment → moment ≤ call.new.moment
    → call.new.files_at moment file → call.new.cells_at moment cells → Holds moment file cells

-- A call does no work: it doesn't answer 0, and a stop in it leaves only what a stop at its entry may leave.
pub record IsIdle (call : Call) : Type 0 where
  pub not_done : call.status ≢ 0
  pub stopped : AtEachStop call (λ moment file cells. Left call.old file cells)

-- A call carries a job to a goal. With status 0 the cells are the goal, no operation is open, and the file is closed, with the job's body
-- after byte 0. Before the moment `closing`, a stop leaves file and cells as at the entry, as `AsEntered` says, or the job whole in its
-- file. From that moment on the cells are the goal, and the file is whole or closed. With status 1, 9, 11 or 12 that moment never comes.
pub record CarriesOut (call : Call) (job : Job) (goal : List ℕ) (AsEntered : List ℕ → List ℕ → Type 0) : Type 0 where
  pub says : SaysJob job
  pub done : call.status ≡ 0 → IsDone job.body goal call.new
  pub closing : ℕ
  pub before : AtEachStop call (λ moment file cells. moment < closing → AsEntered file cells ⊎ IsWhole job.body file)
  pub from : AtEachStop call (λ moment file cells. closing ≤ moment → IsAtClose job.body goal file cells)
  pub no_close : HasNoClose call.status → call.new.moment < closing

-- The operation that was open at the entry ends at the moment `end`. A stop at that moment leaves the cells `left`, and nothing else.
-- Before it, a stop leaves each cell as at the entry, except in the operation's range. The moment is the entry where no operation was
-- open, and has come where none is open at the exit.
pub record EndsOperation (call : Call) (left : List ℕ) : Type 0 where
  pub end : ℕ
  pub started : call.old.moment ≤ end
  pub at_entry : call.old.operation ≡ None → end ≡ call.old.moment
  pub at_exit : call.new.operation ≡ None → end ≤ call.new.moment
  pub before : AtEachStop call (λ moment file cells. moment < end → SameOutside call.old.operation call.old.cells cells)
  pub leaves : (cells : List ℕ) → end ≤ call.new.moment → call.new.cells_at end cells → cells ≡ left

-- A job of these files is begun over a free file, in the second format. Its snapshot is the cells of the entry, except in the range of an
-- operation that was open. There it is what the end of that operation left.
pub record IsBegun (call : Call) (asked : FilesAsked) (job : Job) : Type 0 where
  pub files : IsOfFiles call.file_under asked job
  pub format : files.says.text.format ≡ Second
  pub free : IsFree call.old.file
  pub snapshot : SameOutside call.old.operation call.old.cells job.snapshot
  pub operation : EndsOperation call job.snapshot

-- `program` begins a job, and carries it to its image laid over the snapshot. Before the close a stop leaves the device untouched, or the
-- job whole.
pub record ProgramsJob (call : Call) (asked : FilesAsked) : Type 0 where
  pub job : Job
  pub begun : IsBegun call asked job
  pub carries : CarriesOut call job (laid job) (IsUntouched call.old)

-- `begin` begins a job, and leaves it whole.
pub record BeginsJob (call : Call) (asked : FilesAsked) : Type 0 where
  pub job : Job
  pub begun : IsBegun call asked job
  pub done : call.status ≡ 0 → IsWhole job.body call.new.file × (call.new.cells ≡ job.snapshot) × (call.new.operation ≡ None)
  pub stopped : AtEachStop call (λ moment file cells. IsUntouched call.old file cells ⊎ IsWhole job.body file)

-- `resume` and `revert` carry the job for which the file stands at entry, with the snapshot that the file holds.
pub record TakesUp (call : Call) (goal_of : Job → List ℕ) : Type 0 where
  pub job : Job
  pub whole : IsWhole job.body call.old.file
  pub carries : CarriesOut call job (goal_of job) (Left call.old)

-- What a call promises, by the command that its words ask for. A command that isn't named here works on no job.
abbrev pub KeepsPromise : Command → Call → Type 0
KeepsPromise (program asked) call = IsIdle call ⊎ ProgramsJob call asked
KeepsPromise (begin asked) call = IsIdle call ⊎ BeginsJob call asked
KeepsPromise resume call = IsIdle call ⊎ TakesUp call laid
KeepsPromise revert call = IsIdle call ⊎ TakesUp call (λ job. job.snapshot)
KeepsPromise _ call = AtEachStop call (λ moment file cells. Left call.old file cells)

-- A call by its parts.
abbrev pub call_of : (List ℕ → Option (List ℕ)) → BenchState → BenchState → FaultCounts → FaultCounts → ℕ → Call
call_of file_under old new input_faults output_faults status =
    record { file_under = file_under; old = old; new = new; input_faults = input_faults; output_faults = output_faults; status = status }

-- ---- several benches

-- What a call for several benches answers for one of them: the status for that bench alone, and the line that reports it.
pub record BenchAnswer : Type 0 where
  pub status : ℕ
  pub line : List ℕ

-- For this bench alone, the call is one of `resume` that takes no inputs and has the status of its answer. The line is one line, begins
-- with the bench's number, and is the one that says done exactly where that status is 0.
pub record BenchKeeps (old new : BenchState) (number : ℕ) (answer : BenchAnswer) : Type 0 where
  pub keeps : KeepsPromise resume (call_of (λ name. None) old new (fault_counts 0 0) (fault_counts 0 0) answer.status)
  pub said : List ℕ
  pub line_is : answer.line ≡ target_head number ++ (said ++ codes "\n")
  pub one_line : All (λ (byte : ℕ). byte ≢ 10) said
  pub done : (answer.line ≡ done_line number) ↔ (answer.status ≡ 0)

-- Each bench keeps the promise by its own answer. The benches are numbered from `number` on.
abbrev pub EachKeeps : {B : Type 0} → Ghosts B → ℕ → List B → List B → List BenchAnswer → Type 0
EachKeeps G number [] [] [] = Unit {0}
EachKeeps G number (bench ∷ benches) (bench' ∷ benches') (answer ∷ answers) =
    BenchKeeps (G.state bench) (G.state bench') number answer × EachKeeps G (number + 1) benches benches' answers
EachKeeps G number _ _ _ = ⊥

-- the lines of all answers, one after the other
abbrev pub answer_lines : List BenchAnswer → List ℕ
answer_lines answers = flat_map (λ (answer : BenchAnswer). answer.line) answers

-- the first status that isn't 0, or 0 where each is 0
abbrev pub first_status : List BenchAnswer → ℕ
first_status [] = 0
first_status (answer ∷ rest) = if answer.status == 0 then first_status rest else answer.status

-- A call for several benches answers the first status that isn't 0, and prints all lines. Or the output failed: it answers 10, and prints
-- a beginning of the lines. Or it answers 1, out of memory, or 2, by its words, and prints nothing.
abbrev pub SaysLines : List BenchAnswer → ℕ → List ℕ → Type 0
SaysLines answers status said = ((status ≡ first_status answers) × (said ≡ answer_lines answers))
    ⊎ (((rest : List ℕ) × (status ≡ 10) × (answer_lines answers ≡ said ++ rest))
    ⊎ (((status ≡ 1) ⊎ (status ≡ 2)) × (said ≡ [])))

-- What a call for several benches promises, by the contents of the output before and after it. Benches are numbered from 1.
pub record GangKeeps {B : Type 0} (G : Ghosts B) (benches benches' : List B) (tells : Bool) (before after : List ℕ) (status : ℕ) : Type 0 where
  pub answers : List BenchAnswer
  pub each : EachKeeps G 1 benches benches' answers
  pub said : List ℕ
  pub says : SaysLines answers status said
  pub output : IsTrue tells → after ≡ before ++ said
