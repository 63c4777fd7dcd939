-- How one instruction ends.
use Rattle.std.specs.Prelude.{ℕ, Bool, true, false, Result, Ok, Err}
use Rattle.bench_model.specs.declared.bench_fault.BusEnd.{BusEnd}
use Rattle.bench_model.specs.declared.bench_fault.BusEnd.TheVariants as bus_end
use Rattle.armv6m_step.specs.declared.core_state.Core.{Core}
use Rattle.armv6m_step.specs.declared.ends.Stop.{Stop}
use Rattle.armv6m_step.specs.declared.ends.Stop.TheVariants as stop
use Rattle.armv6m_step.specs.declared.ends.StepEnd.{StepEnd}
use Rattle.armv6m_step.specs.declared.ends.StepEnd.TheVariants as end
use Rattle.armv6m_step.specs.Access.{Access, address}

-- The ends that an instruction has by itself. Bus faults and device faults aren't among them: they come from the bus.
pub data OwnEnd : Type 0 where
  Break : (pc : ℕ) → OwnEnd
  Undefined : (pc : ℕ) → OwnEnd
  Unaligned : (at : ℕ) → OwnEnd
  BadState : (pc : ℕ) → OwnEnd

-- the result of an instruction without accesses: the core after it, or an end
abbrev pub Outcome : Type 0
Outcome = Result Core OwnEnd

abbrev pub own_end : OwnEnd → StepEnd
own_end (Break pc) = end.Break pc
own_end (Undefined pc) = end.Undefined pc
own_end (Unaligned at) = end.Unaligned at
own_end (BadState pc) = end.BadState pc

-- the end of an instruction at an access that the bus didn't answer
abbrev pub bus_end_at : ℕ → BusEnd → StepEnd
bus_end_at at bus_end.Fault = end.BusFault at
bus_end_at at bus_end.Device = end.Device

abbrev pub access_end : Access → BusEnd → StepEnd
access_end access e = bus_end_at (address access) e

-- the end of a step for each stop within it
abbrev pub stop_end : Stop → StepEnd
stop_end (stop.Break pc) = end.Break pc
stop_end (stop.Undefined pc) = end.Undefined pc
stop_end (stop.BusFault at) = end.BusFault at
stop_end (stop.Unaligned at) = end.Unaligned at
stop_end (stop.BadState pc) = end.BadState pc
stop_end stop.Device = end.Device

abbrev pub end_of : {A : Type 0} → Result A Stop → StepEnd
end_of (Ok x) = end.Went
end_of (Err s) = stop_end s

abbrev pub is_device_end : StepEnd → Bool
is_device_end end.Went = false
is_device_end (end.Break pc) = false
is_device_end (end.Undefined pc) = false
is_device_end (end.BusFault at) = false
is_device_end (end.Unaligned at) = false
is_device_end (end.BadState pc) = false
is_device_end end.Device = true
