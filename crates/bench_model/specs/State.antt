-- The meaning of a bench: its contents, its counts of faults, and what a stop may leave.
use Rattle.std.specs.Prelude.{◌≡◌, ◌≤◌, ◌+◌, ℕ, List, length, take, drop, Option, Some, None}
use Rattle.bench_model.specs.History.{Half}

pub record BenchState : Type 1 where
  -- the bytes of the job file that a read gives
  pub file : List ℕ
  -- the cells of the device, and the range (place, length) of the open cell operation
  pub cells : List ℕ
  pub operation : Option (ℕ × ℕ)
  -- the number of cells, which never changes; it is known even where the cells aren't
  pub cell_count : ℕ
  -- how many faults of the store and of the device were counted
  pub store_faults : ℕ
  pub device_faults : ℕ
  -- the present moment, and which files and which cells a stop may leave at each moment up to it
  pub moment : ℕ
  pub files_at : ℕ → List ℕ → Type 0
  pub cells_at : ℕ → List ℕ → Type 0

abbrev pub file_half : BenchState → Half
file_half b = record { now = b.moment; at = b.files_at }

abbrev pub cells_half : BenchState → Half
cells_half b = record { now = b.moment; at = b.cells_at }

-- a stop at this moment may leave this file and these cells
abbrev pub Left : BenchState → List ℕ → List ℕ → Type 0
Left b file cells = b.files_at b.moment file × b.cells_at b.moment cells

-- a stop at some moment from `since` on may have left this file and these cells, both at the same moment
abbrev pub LeftSince : BenchState → ℕ → List ℕ → List ℕ → Type 0
LeftSince b since file cells = (k : ℕ) × (since ≤ k) × (k ≤ b.moment) × b.files_at k file × b.cells_at k cells

-- two lists are equal outside the range of an operation, where any bytes may be
abbrev pub SameOutside : Option (ℕ × ℕ) → List ℕ → List ℕ → Type 0
SameOutside None old new = new ≡ old
SameOutside (Some range) old new = (length new ≡ length old)
    × (take range.0 new ≡ take range.0 old) × (drop (range.0 + range.1) new ≡ drop (range.0 + range.1) old)
