-- What each answer means, for every command.
use Rattle.std.specs.Prelude.{◌≡◌, ◌≤◌, ◌<◌, ◌⊎◌, ℕ, Bool, true, false, IsTrue, List, Option, Some, None}
use Rattle.faults.specs.Counts.{Rose}
use Rattle.bench_model.specs.Calls.{OnlyReads}
use Rattle.report_text.specs.Refusal.{Refusal, out_of_memory, usage, input_fault, image_too_long, flm_refused, other_device, no_room, board_refused}
use Rattle.report_text.specs.Refusal.{image_refused, image_misplaced, job_open, no_job, not_a_job, damaged, cells_differ, store_fault, device_fault}
use Rattle.report_text.specs.Refusal.{output_fault}
use Rattle.command_files.specs.Inputs.{InputsCall, IsUntaken}
use Rattle.command_files.specs.Call.{BenchCall, SinkCall, Call, IsUntouched, Answer, done, refused}
use Rattle.command_files.specs.Said.{TookNothing, Says}

-- ---- faults

pub data Fault : Type 0 where
  input : Fault
  store : Fault
  device : Fault
  output : Fault

-- the fault that an answer names
abbrev pub fault_in : Answer → Option Fault
fault_in (refused (input_fault name)) = Some input
fault_in (refused store_fault) = Some store
fault_in (refused device_fault) = Some device
fault_in (refused output_fault) = Some output
fault_in _ = None

-- a fault is answered only if it was counted, and each fault that is counted is answered
pub record IsCounted (before after : ℕ) (fault : Fault) (answer : Answer) : Type 0 where
  pub later : before ≤ after
  pub only : fault_in answer ≡ Some fault → Rose before after
  pub answered : before < after → fault_in answer ≡ Some fault

pub record AreCounted (bench : BenchCall) (inputs : InputsCall) (out : SinkCall) (answer : Answer) : Type 0 where
  pub inputs_count : IsCounted inputs.before.faults inputs.after.faults input answer
  pub store_count : IsCounted bench.before.store_faults bench.after.store_faults store answer
  pub device_count : IsCounted bench.before.device_faults bench.after.device_faults device answer
  pub out_count : IsCounted out.before.faults out.after.faults output answer

-- An answer yields if it is "out of memory", which may replace any answer, or a fault, which may do so where it is counted.

abbrev pub yields : Answer → Bool
yields (refused out_of_memory) = true
yields (refused (input_fault name)) = true
yields (refused store_fault) = true
yields (refused device_fault) = true
yields (refused output_fault) = true
yields _ = false

-- the answer is the one that is due, or an answer that yields
abbrev pub IsUnless : Answer → Answer → Type 0
IsUnless answer due = (answer ≡ due) ⊎ (yields answer ≡ true)

-- the refusal that is due, or an answer that yields, in which case no more than `Done` was done
abbrev pub Refuses : Type 0 → Answer → Refusal → Type 0
Refuses Done answer refusal = (answer ≡ refused refusal) ⊎ ((yields answer ≡ true) × Done)

-- ---- what a command leaves after a refusal that comes before any work

-- the bench is as it was, and nothing went to `out`
pub record DidNothing (bench : BenchCall) (out : SinkCall) : Type 0 where
  pub untouched : IsUntouched bench
  pub prints : TookNothing out

-- the job file was only read: where the bench tells its contents, file and cells are as they were; nothing went to `out`
pub record OnlyLooked (bench : BenchCall) (out : SinkCall) : Type 0 where
  pub reads : IsTrue bench.tells → OnlyReads bench.tells bench.before bench.after
  pub prints : TookNothing out

-- What a command works on: its files and the cells, also the job file, or a bench in memory of its own.
pub data Scope : Type 0 where
  on_files : Scope
  on_job_file : Scope
  on_own_bench : Scope

-- Status 7. A command that doesn't read the job file did nothing, and the others only read it. A command on a bench of its own prints the
-- result of its work there.
abbrev pub AtSeven : Scope → BenchCall → SinkCall → Type 0
AtSeven on_files bench out = DidNothing bench out
AtSeven on_job_file bench out = OnlyLooked bench out
AtSeven on_own_bench bench out = IsTrue bench.tells → OnlyReads bench.tells bench.before bench.after

-- Status 1: nothing went to `out`. A command on a bench of its own prints that its work there ran out of memory.
abbrev pub AtOne : Scope → SinkCall → Type 0
AtOne on_files out = TookNothing out
AtOne on_job_file out = TookNothing out
AtOne on_own_bench out = Unit {0}

-- What a command leaves after statuses 1 to 7.
abbrev pub StandsEarly : Scope → BenchCall → SinkCall → Answer → Type 0
StandsEarly scope bench out (refused out_of_memory) = AtOne scope out
StandsEarly scope bench out (refused usage) = DidNothing bench out
StandsEarly scope bench out (refused (input_fault name)) = DidNothing bench out
StandsEarly scope bench out (refused (image_too_long bytes cells)) = DidNothing bench out
StandsEarly scope bench out (refused (image_refused name fault)) = DidNothing bench out
StandsEarly scope bench out (refused (image_misplaced fault)) = DidNothing bench out
StandsEarly scope bench out (refused (flm_refused fault)) = DidNothing bench out
StandsEarly scope bench out (refused (other_device base size)) = DidNothing bench out
StandsEarly scope bench out (refused (no_room need have)) = DidNothing bench out
StandsEarly scope bench out (refused (board_refused fault)) = DidNothing bench out
StandsEarly scope bench out (refused job_open) = AtSeven scope bench out
StandsEarly scope bench out (refused no_job) = AtSeven scope bench out
StandsEarly scope bench out (refused (not_a_job at)) = AtSeven scope bench out
StandsEarly scope bench out (refused (damaged kept found)) = AtSeven scope bench out
StandsEarly scope bench out (refused (cells_differ wanted found)) = AtSeven scope bench out
StandsEarly scope bench out _ = Unit {0}

-- the answer is "done", or a refusal that passes the test
abbrev pub IsOf : (Refusal → Bool) → Answer → Type 0
IsOf has done = Unit {0}
IsOf has (refused refusal) = has refusal ≡ true

-- What holds of the work of each command of this scope, with these refusals and these file names, whatever the objects tell. It says which
-- refusals come, how faults are counted, and what an early refusal leaves. No other file is asked for. No take failed except the one whose
-- fault is answered.
pub record EndsLawfully (scope : Scope) (bench : BenchCall) (inputs : InputsCall) (out : SinkCall) (has : Refusal → Bool) (names : List (List ℕ))
    (answer : Answer) : Type 0 where
  pub kind : IsOf has answer
  pub counts : AreCounted bench inputs out answer
  pub stands : StandsEarly scope bench out answer
  pub untaken : (name : List ℕ) → answer ≡ refused (input_fault name) → IsUntaken inputs names name
  pub none_failed : IsTrue inputs.tells → (fault_in answer ≡ Some input → ⊥) → inputs.after.failed ≡ inputs.before.failed

-- A call with this answer, its status and its line on `err`; its work ends as `Ends` says.
pub record AnswersBy (call : Call) (Ends : BenchCall → InputsCall → SinkCall → Answer → Type 0) : Type 0 where
  pub answer : Answer
  pub says : Says call.status call.err answer
  -- status 0 means "done"
  pub zero : call.status ≡ 0 → answer ≡ done
  pub ends : Ends call.bench call.inputs call.out answer
