-- What the calls of a bench do.
use Rattle.std.specs.Prelude.{◌≤◌, ◌+◌, ◌≡◌, ℕ, List, ◌++◌, length, take, drop, max, Bool, IsTrue, Option, Some, None}
use Rattle.bench_model.specs.History.{Half, left, AddsNothing, Stays}
use Rattle.bench_model.specs.State.{BenchState, file_half, cells_half}

-- a list with these bytes written over the old ones from a place on
abbrev pub written : ℕ → List ℕ → List ℕ → List ℕ
written at bytes old = take at old ++ bytes ++ drop (at + length bytes) old

-- A file after a write of n bytes that failed or was stopped. The range holds any bytes, and all else stays. The length is any from the old
-- one to that after the whole write.
pub record Torn (at n : ℕ) (old new : List ℕ) : Type 0 where
  pub before : take at new ≡ take at old
  pub after : drop (at + n) new ≡ drop (at + n) old
  pub no_shorter : length old ≤ length new
  pub no_longer : length new ≤ max (length old) (at + n)

-- A file after a stop of a cut to n bytes. Any bytes follow the first n, and the length is at most the old one.
pub record Cut (n : ℕ) (old new : List ℕ) : Type 0 where
  pub front : take n new ≡ take n old
  pub no_longer : length new ≤ length old

-- A file after a cut to n bytes that failed. The length is any from n to the old one, and the bytes that remain stay.
pub record Shortened (n : ℕ) (old new : List ℕ) : Type 0 where
  pub no_shorter : n ≤ length new
  pub front : take (length new) old ≡ new

-- what a stop leaves is reached by this step from something that a stop may leave at `old`
abbrev pub Follows : (List ℕ → List ℕ → Type 0) → Half → List ℕ → Type 0
Follows step old new = (before : List ℕ) × left old before × step before new

-- an operation on `n` cells is open
abbrev pub IsOpen : ℕ → Option (ℕ × ℕ) → Type 0
IsOpen n None = ⊥
IsOpen n (Some range) = range.1 ≡ n

-- the file, its faults, and what a stop may leave of it stay at each moment
pub record FileStays (old new : BenchState) : Type 0 where
  pub file : new.file ≡ old.file
  pub faults : new.store_faults ≡ old.store_faults
  pub half : Stays (file_half old) (file_half new)

-- the cells, their faults, and what a stop may leave of them stay at each moment
pub record CellsStay (old new : BenchState) : Type 0 where
  pub cells : new.cells ≡ old.cells
  pub operation : new.operation ≡ old.operation
  pub count : new.cell_count ≡ old.cell_count
  pub faults : new.device_faults ≡ old.device_faults
  pub half : Stays (cells_half old) (cells_half new)

-- The file is only read or synced. It stays, a stop leaves no file that it might not have left before, and the cells' half stays.
pub record OnlyReads (tells : Bool) (old new : BenchState) : Type 0 where
  pub file : IsTrue tells → new.file ≡ old.file
  pub moments : AddsNothing (file_half old) (file_half new)
  pub cells : CellsStay old new

-- The file is only read or synced. It stays, and a stop leaves no file that it might not have left before.
pub record FileIsRead (tells : Bool) (old new : BenchState) : Type 0 where
  pub file : IsTrue tells → new.file ≡ old.file
  pub moments : AddsNothing (file_half old) (file_half new)

-- The cells are only read. They and the open operation stay, and a stop leaves no cells that it might not have left before.
pub record CellsAreRead (tells : Bool) (old new : BenchState) : Type 0 where
  pub cells : IsTrue tells → new.cells ≡ old.cells
  pub operation : IsTrue tells → new.operation ≡ old.operation
  pub count : new.cell_count ≡ old.cell_count
  pub moments : AddsNothing (cells_half old) (cells_half new)

-- the file and the cells are only read
pub record IsRead (tells : Bool) (old new : BenchState) : Type 0 where
  pub file : FileIsRead tells old new
  pub cells : CellsAreRead tells old new
