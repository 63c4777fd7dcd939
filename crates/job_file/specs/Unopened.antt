-- What a device fault of `begin` leaves.
use Rattle.std.specs.Prelude.{Result, Ok, Err}
use Rattle.bench_model.specs.History.{Half, Leaves}
use Rattle.job_file.specs.declared.fault.BeginFault.{BeginFault}
use Rattle.job_file.specs.declared.fault.BeginFault.TheVariants as beginning
use Rattle.job_file.specs.Stops.{IsUnopened}

-- a device fault of `begin` comes before the gate is opened, so no stop leaves the job
abbrev pub UnopenedAtDeviceFault : {T : Type 0} → Half → Half → Result T BeginFault → Type 0
UnopenedAtDeviceFault start end (Ok x) = Unit {0}
UnopenedAtDeviceFault start end (Err beginning.OutOfMemory) = Unit {0}
UnopenedAtDeviceFault start end (Err beginning.JobOpen) = Unit {0}
UnopenedAtDeviceFault start end (Err beginning.StoreFault) = Unit {0}
UnopenedAtDeviceFault start end (Err beginning.DeviceFault) = Leaves start end (IsUnopened start)
UnopenedAtDeviceFault start end (Err (beginning.CellsDiffer said found)) = Unit {0}
UnopenedAtDeviceFault start end (Err (beginning.NotAJob at)) = Unit {0}
UnopenedAtDeviceFault start end (Err (beginning.Damaged kept found)) = Unit {0}
