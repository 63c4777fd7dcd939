-- The bench faults (`StoreFault`, `DeviceFault`) among the refusals of the calls on a job.
use Rattle.std.specs.Prelude.{Bool, Option, Some, None, Result, Ok, Err}
use Rattle.bench_model.specs.State.{BenchState}
use Rattle.bench_model.specs.Calls.{OnlyReads}
use Rattle.bench_model.specs.Counted.{BenchFault, store, device}
use Rattle.job_file.specs.declared.fault.ReadFault.{ReadFault}
use Rattle.job_file.specs.declared.fault.ReadFault.TheVariants as reading
use Rattle.job_file.specs.declared.fault.LookFault.{LookFault}
use Rattle.job_file.specs.declared.fault.LookFault.TheVariants as look
use Rattle.job_file.specs.declared.fault.OpenFault.{OpenFault}
use Rattle.job_file.specs.declared.fault.OpenFault.TheVariants as opening
use Rattle.job_file.specs.declared.fault.BeginFault.{BeginFault}
use Rattle.job_file.specs.declared.fault.BeginFault.TheVariants as beginning

abbrev pub read_fault : ReadFault → Option BenchFault
read_fault reading.StoreFault = Some store
read_fault _ = None

abbrev pub look_fault : LookFault → Option BenchFault
look_fault look.StoreFault = Some store
look_fault _ = None

abbrev pub open_fault : OpenFault → Option BenchFault
open_fault opening.StoreFault = Some store
open_fault _ = None

abbrev pub begin_fault : BeginFault → Option BenchFault
begin_fault beginning.StoreFault = Some store
begin_fault beginning.DeviceFault = Some device
begin_fault _ = None

-- the refusal is a bench fault: `StoreFault` or `DeviceFault`
abbrev pub IsFault : BeginFault → Type 0
IsFault beginning.OutOfMemory = ⊥
IsFault beginning.JobOpen = ⊥
IsFault beginning.StoreFault = Unit {0}
IsFault beginning.DeviceFault = Unit {0}
IsFault (beginning.CellsDiffer said found) = ⊥
IsFault (beginning.NotAJob at) = ⊥
IsFault (beginning.Damaged kept found) = ⊥

-- every refusal but `StoreFault` and `DeviceFault` comes with file and cells only read
abbrev pub ReadsUnlessFault : {T : Type 0} → Bool → BenchState → BenchState → Result T BeginFault → Type 0
ReadsUnlessFault tells old new (Ok x) = Unit {0}
ReadsUnlessFault tells old new (Err beginning.OutOfMemory) = OnlyReads tells old new
ReadsUnlessFault tells old new (Err beginning.JobOpen) = OnlyReads tells old new
ReadsUnlessFault tells old new (Err beginning.StoreFault) = Unit {0}
ReadsUnlessFault tells old new (Err beginning.DeviceFault) = Unit {0}
ReadsUnlessFault tells old new (Err (beginning.CellsDiffer said found)) = OnlyReads tells old new
ReadsUnlessFault tells old new (Err (beginning.NotAJob at)) = OnlyReads tells old new
ReadsUnlessFault tells old new (Err (beginning.Damaged kept found)) = OnlyReads tells old new
