-- The end of `resume` and `revert`, as the top call uses it.
use Rattle.std.proofs.Common.{◌≡◌, refl, ℕ, Bool, IsTrue, List, [], length}
use Rattle.bench_model.specs.History.{left}
use Rattle.bench_model.specs.State.{BenchState, cells_half, SameOutside}
use Rattle.outside_io.specs.State.{SinkState}
use Rattle.flash_session.specs.declared.goal.Goal.{Goal}
use Rattle.report_text.specs.Refusal.{out_of_memory}
use Rattle.command_files.specs.Inputs.{InputsCall, TakesNothing}
use Rattle.command_files.specs.Call.{refused, bench_call, sink_call}
use Rattle.command_files.specs.Answered.{on_job_file}
use Rattle.command_files.proofs.AnswerLemmas.{only_looked, plain_lawful, took_none}
use Rattle.job_commands.specs.GoOn.{GoOnEnds, has_resume}
use Rattle.job_commands.proofs.EntryLemmas.{goes_on_unread}

-- the call runs out of memory before any work
pub ends_unread : (tells sinks : Bool) (b : BenchState) (o : SinkState) (inputs : InputsCall) (goal : Goal) → (IsTrue tells → length b.cells ≡ b.cell_count)
    → (IsTrue tells → (x : List ℕ) → left (cells_half b) x → SameOutside b.operation b.cells x) → TakesNothing inputs
    → GoOnEnds goal (bench_call tells b b) inputs (sink_call sinks o o) (refused out_of_memory)
ends_unread tells sinks b o inputs goal many exact takes = record {
  lawful = plain_lawful tells sinks b o inputs on_job_file has_resume [] out_of_memory (only_looked tells sinks b o) refl (took_none inputs takes) refl;
  takes = takes;
  sound = tt;
  prints = record { taken = refl; faults = refl };
  told = λ told. goes_on_unread tells sinks b o (many told) (exact told) goal;
}
