-- What a comparison of cells with bytes finds.
use Rattle.std.specs.Prelude.{◌≡◌, ◌+◌, ℕ, Bool, IsTrue, List, length, take, drop, Option, Some, None}
use Rattle.bench_model.specs.State.{BenchState, cells_half}
use Rattle.bench_model.specs.History.{AddsNothing}
use Rattle.bench_model.specs.Calls.{FileStays}
use Rattle.readback.specs.Difference.{IsFirstDifference}
use Rattle.readback.specs.declared.compare.Difference.{Difference}

-- This is the first difference between the cells from a place on and these bytes.
pub record IsDifference (tells : Bool) (cells : List ℕ) (from : ℕ) (bytes : List ℕ) (d : Difference) : Type 0 where
  pub offset : ℕ
  pub place : d.at ≡ from + offset
  pub first : IsFirstDifference tells cells from bytes offset d.want d.got

-- The first difference between the cells from a place on and these bytes, or none where they are equal.
abbrev pub Finds : Bool → List ℕ → ℕ → List ℕ → Option Difference → Type 0
Finds tells cells from bytes None = IsTrue tells → take (length bytes) (drop from cells) ≡ bytes
Finds tells cells from bytes (Some d) = IsDifference tells cells from bytes d

-- The cells are only read. They and the open operation are unchanged, and so is the job file's half. A stop leaves no cells that an
-- earlier stop might not have left.
pub record OnlyReadsCells (tells : Bool) (old new : BenchState) : Type 0 where
  pub cells : IsTrue tells → new.cells ≡ old.cells
  pub operation : IsTrue tells → new.operation ≡ old.operation
  pub count : new.cell_count ≡ old.cell_count
  pub moments : AddsNothing (cells_half old) (cells_half new)
  pub file : FileStays old new
