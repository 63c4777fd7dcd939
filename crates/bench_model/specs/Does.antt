-- What each call of a bench does, from the bench before it to the bench after it: its answer, the contents after it and after a fault, what
-- a stop during it may leave, and the count of faults. The other half stays. Where a bench doesn't show its contents, only the moments, the
-- other half and the counts are stated.
use Rattle.std.specs.Prelude.{◌≡◌, ℕ, List, Bool, length, take, drop, IsTrue, Result, IfOk, OnOk, OnErr, Some, None, IfSome}
use Rattle.faults.specs.Counts.{HasCause}
use Rattle.bench_model.specs.History.{left, Leaves, AddsNothing, LeftOnly}
use Rattle.bench_model.specs.State.{BenchState, file_half, cells_half, SameOutside}
use Rattle.bench_model.specs.Calls.{written, Torn, Cut, Shortened, Follows, FileStays, CellsStay}
use Rattle.bench_model.specs.declared.bench_fault.StoreFault.{StoreFault}
use Rattle.bench_model.specs.declared.bench_fault.DeviceFault.{DeviceFault}

-- The file.

pub record MeasuresFile (tells : Bool) (old new : BenchState) (result : Result ℕ StoreFault) : Type 0 where
  pub ok : IsTrue tells → IfOk result (λ len. len ≡ length old.file)
  pub file : IsTrue tells → new.file ≡ old.file
  pub moments : AddsNothing (file_half old) (file_half new)
  pub cells : CellsStay old new
  pub cause : HasCause old.store_faults new.store_faults result

-- A read of the file. On a fault the buffer (`before` and `after` the call) holds any bytes.
pub record ReadsFile {T : Type 0} (tells : Bool) (old new : BenchState) (at : ℕ) (before after : List ℕ) (result : Result T StoreFault) : Type 0 where
  pub ok : IsTrue tells → OnOk result (after ≡ take (length before) (drop at old.file))
  pub file : IsTrue tells → new.file ≡ old.file
  pub moments : AddsNothing (file_half old) (file_half new)
  pub cells : CellsStay old new
  pub cause : HasCause old.store_faults new.store_faults result

-- A write to the file. A stop or a fault may leave the file torn.
pub record WritesFile {T : Type 0} (tells : Bool) (old new : BenchState) (at : ℕ) (bytes : List ℕ) (result : Result T StoreFault) : Type 0 where
  pub ok : IsTrue tells → OnOk result (new.file ≡ written at bytes old.file)
  pub err : IsTrue tells → OnErr result (Torn at (length bytes) old.file new.file)
  pub moments : Leaves (file_half old) (file_half new) (Follows (Torn at (length bytes)) (file_half old))
  pub cells : CellsStay old new
  pub cause : HasCause old.store_faults new.store_faults result

-- A cut of the file. A stop may leave any length that the file had, with any bytes from the cut on. A fault may cut only a part.
pub record CutsFile {T : Type 0} (tells : Bool) (old new : BenchState) (len : ℕ) (result : Result T StoreFault) : Type 0 where
  pub ok : IsTrue tells → OnOk result (new.file ≡ take len old.file)
  pub err : IsTrue tells → OnErr result (Shortened len old.file new.file)
  pub moments : Leaves (file_half old) (file_half new) (Follows (Cut len) (file_half old))
  pub cells : CellsStay old new
  pub cause : HasCause old.store_faults new.store_faults result

-- A sync of the file. After it a stop leaves the file as a read gives it. After a fault all that was pending still is.
pub record SyncsFile {T : Type 0} (tells : Bool) (old new : BenchState) (result : Result T StoreFault) : Type 0 where
  pub ok : IsTrue tells → OnOk result (LeftOnly old.file (file_half new))
  pub file : IsTrue tells → new.file ≡ old.file
  pub moments : AddsNothing (file_half old) (file_half new)
  pub cells : CellsStay old new
  pub cause : HasCause old.store_faults new.store_faults result

-- The cells.

-- A read of the cells. On a fault the buffer (`before` and `after` the call) holds any bytes.
pub record ReadsCells {T : Type 0} (tells : Bool) (old new : BenchState) (at : ℕ) (before after : List ℕ) (result : Result T DeviceFault) : Type 0 where
  pub ok : IsTrue tells → OnOk result (after ≡ take (length before) (drop at old.cells))
  pub cells : IsTrue tells → new.cells ≡ old.cells
  pub operation : IsTrue tells → new.operation ≡ old.operation
  pub count : new.cell_count ≡ old.cell_count
  pub moments : AddsNothing (cells_half old) (cells_half new)
  pub file : FileStays old new
  pub cause : HasCause old.device_faults new.device_faults result

-- Opening an operation on cells. Whatever a stop may leave during the call, it may also leave after it. On a fault no operation is open.
pub record OpensCells {T : Type 0} (tells : Bool) (old new : BenchState) (at len : ℕ) (result : Result T DeviceFault) : Type 0 where
  pub ok : IsTrue tells → OnOk result (new.operation ≡ Some (at, len))
  pub err : IsTrue tells → OnErr result (new.operation ≡ None)
  pub cells : IsTrue tells → new.cells ≡ old.cells
  pub count : new.cell_count ≡ old.cell_count
  pub moments : Leaves (cells_half old) (cells_half new) (left (cells_half new))
  pub file : FileStays old new
  pub cause : HasCause old.device_faults new.device_faults result

-- the operation stays open, over the same cells
pub record StaysOpen (old new : BenchState) : Type 0 where
  pub operation : new.operation ≡ old.operation
  pub cells : new.cells ≡ old.cells

-- the operation ended with bytes in its range, which are a function of the range's length
pub record IsSettled (bytes : ℕ → List ℕ) (old new : BenchState) : Type 0 where
  pub operation : new.operation ≡ None
  pub cells : IfSome old.operation (λ range. new.cells ≡ written range.0 (bytes range.1) old.cells)

-- Ends the open operation with bytes in its range: those given, or one value in each cell. On a fault it stays open.
pub record SettlesCells {T : Type 0} (tells : Bool) (old new : BenchState) (bytes : ℕ → List ℕ) (result : Result T DeviceFault) : Type 0 where
  pub ok : IsTrue tells → OnOk result (IsSettled bytes old new)
  pub err : IsTrue tells → OnErr result (StaysOpen old new)
  pub count : new.cell_count ≡ old.cell_count
  pub moments : AddsNothing (cells_half old) (cells_half new)
  pub file : FileStays old new
  pub cause : HasCause old.device_faults new.device_faults result

-- the operation was broken off: its range holds any bytes
pub record IsBrokenOff (old new : BenchState) : Type 0 where
  pub operation : new.operation ≡ None
  pub cells : SameOutside old.operation old.cells new.cells

-- Breaks off an open operation. On a fault it stays open.
pub record DropsCells {T : Type 0} (tells : Bool) (old new : BenchState) (result : Result T DeviceFault) : Type 0 where
  pub ok : IsTrue tells → OnOk result (IsBrokenOff old new)
  pub err : IsTrue tells → OnErr result (StaysOpen old new)
  pub count : new.cell_count ≡ old.cell_count
  pub moments : AddsNothing (cells_half old) (cells_half new)
  pub file : FileStays old new
  pub cause : HasCause old.device_faults new.device_faults result
