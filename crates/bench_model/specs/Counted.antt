-- The two kinds of faults of a bench, and how a count of faults relates to a fault in an answer.
use Rattle.std.specs.Prelude.{◌≡◌, ℕ, ◌≤◌, Bool, true, false, Option, Some, None, Result, Ok, Err}
use Rattle.faults.specs.Counts.{Rose}

-- a fault of the job file's store, or of the device
pub data BenchFault : Type 0 where
  store : BenchFault
  device : BenchFault

-- the fault that an answer reports, if any, where `fault` says which fault a refusal reports
abbrev pub fault_in : {T E : Type 0} → (E → Option BenchFault) → Result T E → Option BenchFault
fault_in fault (Ok value) = None
fault_in fault (Err refusal) = fault refusal

-- whether a reported fault, if any, is one of the store
abbrev pub is_store_fault : Option BenchFault → Bool
is_store_fault None = false
is_store_fault (Some store) = true
is_store_fault (Some device) = false

abbrev pub is_device_fault : Option BenchFault → Bool
is_device_fault None = false
is_device_fault (Some store) = false
is_device_fault (Some device) = true

-- a fault is answered only if its count rose; with any other answer the count stays
pub record IsCounted (before now : ℕ) (answered : Bool) : Type 0 where
  pub later : before ≤ now
  pub on_fault : answered ≡ true → Rose before now
  pub on_other : answered ≡ false → now ≡ before
