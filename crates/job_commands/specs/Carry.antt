-- What `program`, `resume` and `revert` have in common: a job is carried to its goal.
use Rattle.std.specs.Prelude.{◌≡◌, ◌⊎◌, ◌≤◌, ◌<◌, ◌++◌, ℕ, true, false, List, ◌∷◌, None}
use Rattle.bench_model.specs.History.{GoesOn, Leaves}
use Rattle.bench_model.specs.State.{BenchState, file_half, cells_half, SameOutside}
use Rattle.bench_model.specs.Pairs.{PairsInTurn}
use Rattle.job_text.specs.Files.{IsFree, IsWhole}
use Rattle.job_file.specs.Stops.{IsUnopened}
use Rattle.campaign.specs.Stops.{IsAtClose}
use Rattle.flash_session.specs.Script.{Broken}
use Rattle.report_text.specs.End.{end_text}
use Rattle.report_text.specs.declared.end.End.TheVariants.{Done}
use Rattle.report_text.specs.Refusal.{out_of_memory, input_fault, store_fault, device_fault, output_fault, call_failed, mismatch}
use Rattle.command_files.specs.Call.{BenchCall, SinkCall, Answer, done, refused}
use Rattle.command_files.specs.Said.{TookNothing, TookAll, TookPart, TookPartBehind}
use Rattle.command_files.specs.Answered.{IsUnless}
use Rattle.job_commands.specs.Answers.{is_of_work, has_no_close}
use Rattle.job_commands.specs.Work.{Work, body, shown_plan, Ends, Fails, Misses, Breaks, IsOnPath, KeepsDuties, IsOutsidePlanAsSurveyed}

-- Where a call may end, in the order of its work.

-- each cell is as at entry, except in the range of an operation that was open then
abbrev pub IsAsEntered : BenchCall → List ℕ → Type 0
IsAsEntered bench cells = SameOutside bench.before.operation bench.before.cells cells

-- the file stands for the job
abbrev pub HasJob : BenchState → Work → Type 0
HasJob now w = IsWhole (body w) now.file

-- the line that is printed after a job was closed
abbrev pub done_text : List ℕ
done_text = end_text Done

-- The call ended while the job with this body was being begun over a free file: the file is free, or stands for the job.
pub record EndsInBegin (bench : BenchCall) (out : SinkCall) (body : List ℕ) : Type 0 where
  pub free : IsFree bench.before.file
  pub file : IsWhole body bench.after.file ⊎ IsFree bench.after.file
  pub cells : IsAsEntered bench bench.after.cells
  pub prints : TookNothing out

-- No stop leaves the job, because its gate was never opened.
abbrev pub NeverBegun : BenchCall → Type 0
NeverBegun bench = Leaves (file_half bench.before) (file_half bench.after) (IsUnopened (file_half bench.before))

-- The call ended after the beginning and before the plans: the file stands for the job, and nothing was printed.
pub record EndsBeforePlan (bench : BenchCall) (out : SinkCall) (w : Work) : Type 0 where
  pub job : HasJob bench.after w
  pub cells : IsAsEntered bench bench.after.cells
  pub prints : TookNothing out

-- The call ran out of memory before any cell changed and anything was printed: the file is as at entry, or stands for the job.
pub record EndsWithoutMemory (bench : BenchCall) (out : SinkCall) (w : Work) : Type 0 where
  pub file : HasJob bench.after w ⊎ (bench.after.file ≡ bench.before.file)
  pub cells : IsAsEntered bench bench.after.cells
  pub prints : TookNothing out

-- The call ended while the plans were printed: a beginning of their text went out, the cells are as surveyed, and no operation is open.
pub record EndsInPlan (bench : BenchCall) (out : SinkCall) (w : Work) : Type 0 where
  pub job : HasJob bench.after w
  pub cells : bench.after.cells ≡ w.surveyed
  pub idle : bench.after.operation ≡ None
  pub prints : TookPart out (shown_plan w)

-- The call ended in the script or at its end, as `Way` says, with the plans printed.
pub record EndsInScript (bench : BenchCall) (out : SinkCall) (w : Work) (Way : Type 0) : Type 0 where
  pub job : HasJob bench.after w
  pub prints : TookAll out (shown_plan w)
  pub way : Way

-- the script went to its end, no operation is open, and the cells are the goal
pub record HasReached (now : BenchState) (w : Work) (broken : Broken) : Type 0 where
  pub ends : Ends w broken now.cells
  pub idle : now.operation ≡ None
  pub goal : now.cells ≡ w.goal

-- The call ended in the close: the goal is reached, and the file stands for the job, or is free.
pub record EndsInClose (bench : BenchCall) (out : SinkCall) (w : Work) (broken : Broken) : Type 0 where
  pub file : HasJob bench.after w ⊎ IsFree bench.after.file
  pub reached : HasReached bench.after w broken
  pub prints : TookAll out (shown_plan w)

-- The call ended after the close: the job is closed, and the goal is reached.
pub record HasClosed (now : BenchState) (w : Work) (broken : Broken) : Type 0 where
  pub file : now.file ≡ 0 ∷ body w
  pub reached : HasReached now w broken

-- When each answer of the work comes, and what then holds of file, cells and output. A file that couldn't be taken comes before all work;
-- other clauses say so. No answer refuses the job's file.
abbrev pub Comes : BenchCall → SinkCall → Work → Broken → Answer → Type 0
Comes bench out w broken done = HasClosed bench.after w broken × TookAll out (shown_plan w ++ done_text)
Comes bench out w broken (refused out_of_memory) = EndsWithoutMemory bench out w
Comes bench out w broken (refused (input_fault name)) = Unit {0}
Comes bench out w broken (refused store_fault) =
    EndsInBegin bench out (body w) ⊎ (EndsBeforePlan bench out w ⊎ (EndsInScript bench out w (Breaks w broken bench.after) ⊎ EndsInClose bench out w broken))
Comes bench out w broken (refused device_fault) =
    (EndsInBegin bench out (body w) × NeverBegun bench) ⊎ (EndsBeforePlan bench out w ⊎ EndsInScript bench out w (Breaks w broken bench.after))
Comes bench out w broken (refused output_fault) = EndsInPlan bench out w ⊎ (HasClosed bench.after w broken × TookPartBehind out (shown_plan w) done_text)
Comes bench out w broken (refused (call_failed number call end)) = EndsInScript bench out w (Fails w broken number call end bench.after.cells)
Comes bench out w broken (refused (mismatch at wanted found)) = EndsInScript bench out w (Misses w broken at wanted found bench.after.cells)
Comes bench out w broken (refused _) = ⊥

-- The cells that a stop leaves satisfy `First` before the moment `turn`, and `Second` from that moment on.
pub record CellsInTurn (old new : BenchState) (turn : ℕ) (First Second : List ℕ → Type 0) : Type 0 where
  pub started : old.moment ≤ turn
  pub goes_on : GoesOn (cells_half old) (cells_half new)
  pub before : (k : ℕ) (c : List ℕ) → old.moment ≤ k → k ≤ new.moment → k < turn → new.cells_at k c → First c
  pub from : (k : ℕ) (c : List ℕ) → turn ≤ k → k ≤ new.moment → new.cells_at k c → Second c

-- The operation that was open at entry is broken off at the moment `turn`. That moment is the entry where none was open, and has come
-- where none is open at exit. Before it only the operation's range changed; from it on the cells are as surveyed.
pub record BrokenOff (old new : BenchState) (surveyed : List ℕ) : Type 0 where
  pub turn : ℕ
  pub at_entry : old.operation ≡ None → turn ≡ old.moment
  pub ended : new.operation ≡ None → turn ≤ new.moment
  pub moments : CellsInTurn old new turn (λ c. SameOutside old.operation old.cells c) (λ c. c ≡ surveyed)

-- What a stop leaves while a job is carried on from pairs of file and cells that satisfy `First`.
pub record Stops (bench : BenchCall) (First : List ℕ → List ℕ → Type 0) (w : Work) (broken : Broken) : Type 0 where
  -- before the close the pair satisfies `First`, or its file is whole; from the close on the file is whole or closed, and the cells are
  -- the goal
  pub closing : ℕ
  pub pairs : PairsInTurn bench.before bench.after closing (λ f c. First f c ⊎ IsWhole (body w) f) (IsAtClose (body w) w.goal)
  -- The moment at which the operation that was open at entry is broken off: a stop then leaves the cells as surveyed, and nothing else.
  -- It is the entry where none was open, and has come where none is open at exit.
  pub broken_off : ℕ
  pub at_entry : bench.before.operation ≡ None → broken_off ≡ bench.before.moment
  pub settled : (c : List ℕ) → broken_off ≤ bench.after.moment → bench.after.cells_at broken_off c → c ≡ w.surveyed
  pub ended : bench.after.operation ≡ None → broken_off ≤ bench.after.moment
  -- up to that moment only the broken-off operation changes cells, and from it on only the script does
  pub path : CellsInTurn bench.before bench.after broken_off (IsAsEntered bench) (IsOnPath w broken)
  -- with algorithms that keep their duties: from that moment on, cells outside the plan of their own region stay as surveyed
  pub local : KeepsDuties w → CellsInTurn bench.before bench.after broken_off (IsAsEntered bench) (IsOutsidePlanAsSurveyed w)

-- What the three commands share, from entry to exit. The cells as surveyed are those of the entry. For one choice of what broken-off
-- operations leave, the answer, the state it left and the pair of each stop are those of the script.
pub record Carries (bench : BenchCall) (out : SinkCall) (First : List ℕ → List ℕ → Type 0) (w : Work) (answer : Answer) : Type 0 where
  pub surveyed : IsAsEntered bench w.surveyed
  pub broken : Broken
  pub comes : Comes bench out w broken answer
  pub stops : Stops bench First w broken
  -- out of memory, or after a device fault, a failed call or a mismatch, the call never reached its close
  pub no_close : has_no_close answer ≡ true → bench.after.moment < stops.closing
  -- the operation that was open at entry is broken off before anything is printed, and before each answer that follows the plans
  pub settled : (is_of_work answer ≡ false × TookNothing out) ⊎ (stops.broken_off ≤ bench.after.moment)
  -- with algorithms that keep their duties the call is done, unless it ran out of memory or a fault was counted
  pub complete : KeepsDuties w → IsUnless answer done
