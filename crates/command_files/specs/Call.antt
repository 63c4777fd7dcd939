-- One call of `flmprog`, as its contract describes it.
use Rattle.std.specs.Prelude.{ℕ, Bool}
use Rattle.bench_model.specs.State.{BenchState}
use Rattle.bench_model.specs.Calls.{FileStays, CellsStay}
use Rattle.outside_io.specs.State.{SinkState}
use Rattle.report_text.specs.Refusal.{Refusal}
use Rattle.command_files.specs.Inputs.{InputsCall}

-- Each of the four objects at entry and at exit, and whether it tells its contents.

pub record BenchCall : Type 1 where
  pub tells : Bool
  pub before : BenchState
  pub after : BenchState

pub record SinkCall : Type 0 where
  pub tells : Bool
  pub before : SinkState
  pub after : SinkState

-- a call: its status, and the four objects that it was given
pub record Call : Type 1 where
  pub status : ℕ
  pub bench : BenchCall
  pub inputs : InputsCall
  pub out : SinkCall
  pub err : SinkCall

abbrev pub bench_call : Bool → BenchState → BenchState → BenchCall
bench_call tells before after = record { tells = tells; before = before; after = after }

abbrev pub sink_call : Bool → SinkState → SinkState → SinkCall
sink_call tells before after = record { tells = tells; before = before; after = after }

abbrev pub call_of : ℕ → BenchCall → InputsCall → SinkCall → SinkCall → Call
call_of status bench inputs out err = record { status = status; bench = bench; inputs = inputs; out = out; err = err }

-- The bench is as it was.
pub record IsUntouched (bench : BenchCall) : Type 0 where
  pub file : FileStays bench.before bench.after
  pub cells : CellsStay bench.before bench.after

-- How a call ends: done, or with a refusal.
pub data Answer : Type 0 where
  done : Answer
  refused : Refusal → Answer
