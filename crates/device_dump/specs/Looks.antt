-- What commands do that look at the cells, and what they print of them.
use Rattle.std.specs.Prelude.{◌≡◌, ◌⊎◌, IsTrue, None, Result, OnOk, OnErr}
use Rattle.faults.specs.Counts.{HasCause}
use Rattle.bench_model.specs.State.{cells_half, SameOutside}
use Rattle.bench_model.specs.History.{AddsNothing}
use Rattle.bench_model.specs.Calls.{FileStays}
use Rattle.bench_model.specs.declared.bench_fault.DeviceFault.{DeviceFault}
use Rattle.report_text.specs.Refusal.{output_fault}
use Rattle.command_files.specs.Call.{BenchCall, SinkCall, Answer, done, refused}
use Rattle.command_files.specs.Said.{TookNothing}

-- an operation that was open at the start was broken off: none is open, and the cells outside its range are as they were
pub record IsBrokenOff (bench : BenchCall) : Type 0 where
  pub idle : IsTrue bench.tells → bench.after.operation ≡ None
  pub outside : IsTrue bench.tells → SameOutside bench.before.operation bench.before.cells bench.after.cells

-- the cells are as they were, and an operation that was open at the start still is
pub record IsStillOpen (bench : BenchCall) : Type 0 where
  pub operation : IsTrue bench.tells → bench.after.operation ≡ bench.before.operation
  pub cells : IsTrue bench.tells → bench.after.cells ≡ bench.before.cells

-- The cells are read, and an operation that was open is broken off first. On a fault it may still be open.
pub record LooksAtCells {A : Type 0} (bench : BenchCall) (result : Result A DeviceFault) : Type 0 where
  pub ok : OnOk result (IsBrokenOff bench)
  pub err : OnErr result (IsBrokenOff bench ⊎ IsStillOpen bench)
  pub file : FileStays bench.before bench.after
  pub count : bench.after.cell_count ≡ bench.before.cell_count
  pub stops : AddsNothing (cells_half bench.before) (cells_half bench.after)
  pub cause : HasCause bench.before.device_faults bench.after.device_faults result

-- What goes to `out`.

-- nothing is printed, except with the answers `done` and `output_fault`
abbrev pub PrintsNothing : SinkCall → Answer → Type 0
PrintsNothing out done = Unit {0}
PrintsNothing out (refused output_fault) = Unit {0}
PrintsNothing out (refused _) = TookNothing out
