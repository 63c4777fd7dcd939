-- Whether an access of a bus ended as a device fault.
use Rattle.std.specs.Prelude.{Bool, true, false, Result, Ok, Err}
use Rattle.bench_model.specs.declared.bench_fault.BusEnd.{BusEnd}
use Rattle.bench_model.specs.declared.bench_fault.BusEnd.TheVariants.{Fault, Device}

-- whether this answer is a device fault
abbrev pub is_device : {A : Type 0} → Result A BusEnd → Bool
is_device (Ok value) = false
is_device (Err Fault) = false
is_device (Err Device) = true
