-- What `demo N` answers.
use Rattle.std.specs.Prelude.{◌≡◌, ◌⊎◌, ℕ, true, []}
use Rattle.std.proofs.Common.{inl, inr}
use Rattle.bench_model.specs.Shown.{Memory, made_bench, bench_of}
use Rattle.bench_model.specs.Shown as bench
use Rattle.bench_model.specs.declared.memory.MemoryBench.{MemoryBench}
use Rattle.report_text.specs.Refusal.{out_of_memory, output_fault}
use Rattle.command_files.specs.Inputs.{InputsCall, TakesNothing}
use Rattle.command_files.specs.Call.{BenchCall, bench_call, SinkCall, IsUntouched, Answer, refused}
use Rattle.command_files.specs.Said.{TookNothing, TookAll, TookPart}
use Rattle.command_files.specs.Answered.{on_own_bench, EndsLawfully}
use Rattle.demo_job.specs.Made.{cells_of}
use Rattle.demo_job.specs.Run.{IsFresh, answer_in}
use Rattle.demo_job.specs.Lines.{demo_text}
use Rattle.demo_job.specs.Demo.{Shows}
use Rattle.demo_job.specs.declared.run.Demo.{Demo}
use Rattle.job_commands.specs.GoOn.{has_resume}

-- Memory ran out before the resume began, and nothing was put.
pub record EndsUnbegun (out : SinkCall) (answer : Answer) : Type 0 where
  pub answer_is : answer ≡ refused out_of_memory
  pub prints : TookNothing out

-- The bench of a demonstration as it is made. It has the cells that the seed makes, an empty file, room for a file of 4,194,304 bytes,
-- and 400,000 units of recorded calls. No call fails, and a broken-off operation leaves its old bytes.
abbrev pub bench_for : ℕ → Memory
bench_for seed = made_bench (cells_of seed) [] 4194304 400000 [] [] []

-- a demonstration of the seed, run on the bench that is made for it
pub record IsShown (seed : ℕ) (demo : Demo) : Type 0 where
  pub fresh : MemoryBench
  pub is_made : bench.shown fresh ≡ bench_for seed
  pub is_fresh : IsFresh seed (bench_of fresh)
  pub shows : Shows seed fresh demo

-- The lines of a demonstration were put, and the call ends as the resume does; or a beginning of them was put, and it ends with the
-- output fault.
abbrev pub Prints : SinkCall → Demo → Answer → Type 0
Prints out demo answer = ((answer ≡ answer_in demo.refusal) × TookAll out (demo_text demo.lines))
    ⊎ ((answer ≡ refused output_fault) × TookPart out (demo_text demo.lines))

-- The lines of a demonstration of the seed, or a beginning of them, were put.
pub record Tells (seed : ℕ) (out : SinkCall) (answer : Answer) : Type 0 where
  pub demo : Demo
  pub is_shown : IsShown seed demo
  pub prints : Prints out demo answer

-- what `demo` answers, as the sink alone shows it: it ended before the resume began, or it put lines
abbrev pub DemoSays : ℕ → SinkCall → Answer → Type 0
DemoSays seed out answer = EndsUnbegun out answer ⊎ Tells seed out answer

-- The bench of the demonstration, as the resume found it and left it.
abbrev pub resumed_in : {seed : ℕ} {out : SinkCall} {answer : Answer} → Tells seed out answer → BenchCall
resumed_in tells = bench_call true (bench_of tells.is_shown.shows.lost) (bench_of tells.demo.bench)

-- Where the lines went out, the rules for answers are read of the demonstration's own bench, and otherwise of the bench of the caller.

abbrev pub TellsLawfully : (seed : ℕ) (bench : BenchCall) (inputs : InputsCall) (out : SinkCall) (answer : Answer) (tells : Tells seed out answer)
    → Prints out tells.demo answer → Type 0
TellsLawfully seed bench inputs out answer tells (inl whole) = EndsLawfully on_own_bench (resumed_in tells) inputs out has_resume [] answer
TellsLawfully seed bench inputs out answer tells (inr cut) = EndsLawfully on_own_bench bench inputs out has_resume [] answer

abbrev pub SaysLawfully : (seed : ℕ) (bench : BenchCall) (inputs : InputsCall) (out : SinkCall) (answer : Answer) → DemoSays seed out answer → Type 0
SaysLawfully seed bench inputs out answer (inl unbegun) = EndsLawfully on_own_bench bench inputs out has_resume [] answer
SaysLawfully seed bench inputs out answer (inr tells) = TellsLawfully seed bench inputs out answer tells tells.prints

-- The work of `demo`: all but the status and the line on `err`. It works on a bench of its own: the bench of the caller is as it was, and
-- no input is taken. The output fault is answered only where the count of `out` rose.
pub record DemoEnds (seed : ℕ) (bench : BenchCall) (inputs : InputsCall) (out : SinkCall) (answer : Answer) : Type 0 where
  pub untouched : IsUntouched bench
  pub takes : TakesNothing inputs
  pub says : DemoSays seed out answer
  pub lawful : SaysLawfully seed bench inputs out answer says
