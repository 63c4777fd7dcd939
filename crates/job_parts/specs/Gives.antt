-- What a call does that puts a text while it reads it from the job file.
use Rattle.std.specs.Prelude.{◌≡◌, ◌++◌, ℕ, Bool, true, false, IsTrue, List}
use Rattle.bench_model.specs.Calls.{OnlyReads}
use Rattle.bench_model.specs.Counted.{IsCounted}
use Rattle.outside_io.specs.Appends.{AppendsPart}
use Rattle.report_text.specs.Refusal.{store_fault, output_fault}
use Rattle.command_files.specs.Call.{BenchCall, SinkCall, Answer, done, refused}

-- whether an answer is a fault of the store, and whether it is one of the output
abbrev pub is_store : Answer → Bool
is_store (refused store_fault) = true
is_store _ = false

abbrev pub is_output : Answer → Bool
is_output (refused output_fault) = true
is_output _ = false

-- A fault is answered only where its count rose. With every other answer the count is unchanged. The job file is only read.
pub record OnlyLooks (bench : BenchCall) (out : SinkCall) (answer : Answer) : Type 0 where
  pub store : IsCounted bench.before.store_faults bench.after.store_faults (is_store answer)
  pub output : IsCounted out.before.faults out.after.faults (is_output answer)
  pub reads : OnlyReads bench.tells bench.before bench.after

-- the answer is done, a fault of the store, or a fault of the output
abbrev pub IsDoneOrFault : Answer → Type 0
IsDoneOrFault done = Unit {0}
IsDoneOrFault (refused store_fault) = Unit {0}
IsDoneOrFault (refused output_fault) = Unit {0}
IsDoneOrFault (refused _) = ⊥

-- the whole text went to `out` where the answer is done, and a beginning of it otherwise
abbrev pub IsGiven : SinkCall → List ℕ → Answer → Type 0
IsGiven out text done = out.after.taken ≡ out.before.taken ++ text
IsGiven out text (refused _) = AppendsPart text out.before.taken out.after.taken

-- a text went to `out`, or a beginning of it
pub record Gives (bench : BenchCall) (out : SinkCall) (text : List ℕ) (answer : Answer) : Type 0 where
  pub kind : IsDoneOrFault answer
  pub given : IsTrue bench.tells → IsTrue out.tells → IsGiven out text answer
  pub looks : OnlyLooks bench out answer
