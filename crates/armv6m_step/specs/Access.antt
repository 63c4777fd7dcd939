-- What an instruction asks of a bus.
use Rattle.std.specs.Prelude.{ℕ, Result, Ok, Err}
use Rattle.bench_model.specs.declared.bench_fault.BusEnd.{BusEnd}

-- a load or a store of `width` bytes: 1, 2 or 4
pub data Access : Type 0 where
  Load : (width at : ℕ) → Access
  Store : (width at value : ℕ) → Access

abbrev pub address : Access → ℕ
address (Load width at) = at
address (Store width at value) = at

-- the answer to a store, which has no value
abbrev pub stored : {A : Type 0} → Result A BusEnd → Result ℕ BusEnd
stored (Ok x) = Ok 0
stored (Err e) = Err e
