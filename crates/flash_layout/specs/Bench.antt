-- How a controller may change its bench.
use Rattle.std.specs.Prelude.{◌≡◌, ◌⊎◌, ℕ, Bool, true, IsTrue, Option, None, Result, OnErr}
use Rattle.faults.specs.Counts.{HasCause}
use Rattle.bench_model.specs.History.{Leaves}
use Rattle.bench_model.specs.State.{BenchState, cells_half, SameOutside}
use Rattle.bench_model.specs.Calls.{FileStays}
use Rattle.bench_model.specs.Device.{is_device}
use Rattle.bench_model.specs.Counted.{IsCounted}
use Rattle.bench_model.specs.declared.bench_fault.BusEnd.{BusEnd}
use Rattle.bench_model.specs.declared.bench_fault.DeviceFault.{DeviceFault}
use Rattle.flash_layout.specs.Maps.{FlashMap}
use Rattle.flash_layout.specs.Areas.{cells_in}

-- the bench has as many cells as the map, and its open operation has this range
pub record Agrees (tells : Bool) (map : FlashMap) (range : Option (ℕ × ℕ)) (b : BenchState) : Type 0 where
  pub count : b.cell_count ≡ cells_in map.areas
  pub operation : IsTrue tells → b.operation ≡ range

-- An access changes no cell, and opens an operation only if none is open. What a stop during the access leaves, a stop after it may leave
-- too. The job file is untouched.
pub record Accesses (tells : Bool) (s t : BenchState) : Type 0 where
  pub cells : IsTrue tells → t.cells ≡ s.cells
  pub operation : IsTrue tells → (t.operation ≡ s.operation) ⊎ (s.operation ≡ None)
  pub count : t.cell_count ≡ s.cell_count
  pub moments : IsTrue tells → Leaves (cells_half s) (cells_half t) (SameOutside t.operation t.cells)
  pub file : FileStays s t

-- A tick or a reset: what a stop during it leaves, a stop before it may leave too. The job file is untouched.
pub record Settles (tells : Bool) (s t : BenchState) : Type 0 where
  pub count : t.cell_count ≡ s.cell_count
  pub moments : IsTrue tells → Leaves (cells_half s) (cells_half t) (SameOutside s.operation s.cells)
  pub file : FileStays s t

-- no operation is open before or after
pub record IsIdle (s t : BenchState) : Type 0 where
  pub before : s.operation ≡ None
  pub after : t.operation ≡ None

-- the width of a load or a store: one, two or four bytes
abbrev pub IsWidth : ℕ → Type 0
IsWidth width = (width ≡ 1) ⊎ ((width ≡ 2) ⊎ (width ≡ 4))

-- What an access does to the bench. The open operation stays the controller's, and then has this range. A device fault occurs only if it
-- was counted, and leaves no operation open.
pub record Touches {A : Type 0} (tells : Bool) (map : FlashMap) (range : Option (ℕ × ℕ)) (s t : BenchState) (result : Result A BusEnd) : Type 0 where
  pub bench : Accesses tells s t
  pub agrees : Agrees tells map range t
  pub cause : IsCounted s.device_faults t.device_faults (is_device result)
  pub idle : IsTrue tells → is_device result ≡ true → IsIdle s t

-- What a tick does to the bench: the same as an access, but when an operation ends, its cells change. A fault leaves the cells as they are.
pub record Ticks (tells : Bool) (map : FlashMap) (range : Option (ℕ × ℕ)) (s t : BenchState) (result : Result (Unit {0}) DeviceFault) : Type 0 where
  pub bench : Settles tells s t
  pub agrees : Agrees tells map range t
  pub err : IsTrue tells → OnErr result (t.cells ≡ s.cells)
  pub cause : HasCause s.device_faults t.device_faults result
