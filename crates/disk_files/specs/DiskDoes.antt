-- What each call on a host's files does.
use Rattle.std.specs.Prelude.{◌≡◌, ◌≤◌, ◌+◌, ℕ, List, Bool, true, false, length, take, drop, ◌++◌, IsTrue, Result, IfOk, OnOk, OnErr, Some, None, Option}
use Rattle.bench_model.specs.History.{left, Leaves, AddsNothing, LeftOnly, Stays}
use Rattle.bench_model.specs.Calls.{Torn, Cut, Shortened, Follows}
use Rattle.disk_files.specs.DiskState.{DiskState, job_half, range_half, JobAsWas, CellsAsWere}

-- The job file.

-- the job file is only read or synced
pub record OnlyReadsJob (tells : Bool) (old new : DiskState) : Type 0 where
  pub file : IsTrue tells → new.file ≡ old.file
  pub moments : AddsNothing (job_half old) (job_half new)
  pub cells : CellsAsWere old new

-- a read answers how many bytes it gives, and gives those
pub record ReadsSome {E : Type 0} (tells : Bool) (held : List ℕ) (at : ℕ) (before after : List ℕ) (result : Result ℕ E) : Type 0 where
  pub count : IfOk result (λ n. n ≤ length before)
  pub ok : IsTrue tells → IfOk result (λ n. after ≡ take n (drop at held) ++ drop n before)

-- A write puts as many of the bytes as it answers. The rest of the range, and on an error all of it, may hold anything.
pub record WritesSome {E : Type 0} (tells : Bool) (old new : List ℕ) (at : ℕ) (bytes : List ℕ) (result : Result ℕ E) : Type 0 where
  pub count : IfOk result (λ n. n ≤ length bytes)
  pub some : IsTrue tells → IfOk result (λ n. take (at + n) new ≡ take at old ++ take n bytes)
  pub torn : IsTrue tells → Torn at (length bytes) old new

-- a write to the job file doesn't change its entry in the folder
pub record WritesJob (tells : Bool) (old new : DiskState) (at n : ℕ) : Type 0 where
  pub entry : IsTrue tells → new.entry ≡ old.entry
  pub moments : Leaves (job_half old) (job_half new) (Follows (Torn at n) (job_half old))
  pub cells : CellsAsWere old new

pub record SetsJobLength {E : Type 0} (tells : Bool) (old new : DiskState) (len : ℕ) (result : Result (Unit {0}) E) : Type 0 where
  pub ok : IsTrue tells → OnOk result (new.file ≡ take len old.file)
  pub err : IsTrue tells → OnErr result (Shortened len old.file new.file)
  pub entry : IsTrue tells → new.entry ≡ old.entry
  pub moments : Leaves (job_half old) (job_half new) (Follows (Cut len) (job_half old))
  pub cells : CellsAsWere old new

-- After a sync of a file with its entry on the disk, a stop can leave nothing but its contents. That isn't so after an earlier
-- sync that failed: the system may have dropped what that one didn't write.
pub record SyncsJob {E : Type 0} (tells : Bool) (old new : DiskState) (result : Result (Unit {0}) E) : Type 0 where
  pub ok : IsTrue tells → old.file_whole ≡ true → OnOk result (LeftOnly old.file (job_half new))
  pub entry : IsTrue tells → new.entry ≡ old.entry
  pub reads : OnlyReadsJob tells old new

pub record SyncsFolder {E : Type 0} (tells : Bool) (old new : DiskState) (result : Result (Unit {0}) E) : Type 0 where
  pub ok : IsTrue tells → old.file_whole ≡ true → OnOk result (new.entry ≡ true)
  pub reads : OnlyReadsJob tells old new

-- A call on the job file may start: the file's entry is on the disk. What reads give is unchanged.
pub record IsReady {E : Type 0} (tells : Bool) (old new : DiskState) (result : Result (Unit {0}) E) : Type 0 where
  pub ok : IsTrue tells → OnOk result (new.entry ≡ true)
  pub reads : OnlyReadsJob tells old new

-- The job file may be changed: no cell is written and not synced.
pub record IsReadyToChange {E : Type 0} (tells : Bool) (old new : DiskState) (result : Result (Unit {0}) E) : Type 0 where
  pub entry : IsTrue tells → OnOk result (new.entry ≡ true)
  pub synced : IsTrue tells → OnOk result (new.unsynced ≡ false)
  pub file : IsTrue tells → new.file ≡ old.file
  pub moments : AddsNothing (job_half old) (job_half new)
  pub bytes : IsTrue tells → new.bytes ≡ old.bytes
  pub cells : new.cells ≡ old.cells
  pub operation : new.operation ≡ old.operation
  pub half : Stays (range_half old) (range_half new)

-- The cells.

-- nothing changes except that cells may reach the disk
pub record IsSynced (tells : Bool) (old new : DiskState) : Type 0 where
  pub bytes : IsTrue tells → new.bytes ≡ old.bytes
  pub cells : new.cells ≡ old.cells
  pub operation : new.operation ≡ old.operation
  pub unsynced : IsTrue tells → old.unsynced ≡ false → new.unsynced ≡ false
  pub earlier : IsTrue tells → old.earlier ≡ false → new.earlier ≡ false
  pub half : Stays (range_half old) (range_half new)
  pub job : JobAsWas old new

pub record SyncsBytes {E : Type 0} (tells : Bool) (old new : DiskState) (result : Result (Unit {0}) E) : Type 0 where
  pub ok : IsTrue tells → old.cells_whole ≡ true → OnOk result ((new.unsynced ≡ false) × (new.earlier ≡ false))
  pub does : IsSynced tells old new

-- Only the bytes of the range may change. A stop may leave them as anything, before and after.
pub record WritesBytes (tells : Bool) (old new : DiskState) : Type 0 where
  pub cells : IsTrue tells → new.cells ≡ old.cells
  pub operation : IsTrue tells → new.operation ≡ old.operation
  pub earlier : IsTrue tells → new.earlier ≡ old.earlier
  pub moments : AddsNothing (range_half old) (range_half new)
  pub job : JobAsWas old new

pub record ReadsBytes (tells : Bool) (old new : DiskState) : Type 0 where
  pub bytes : IsTrue tells → new.bytes ≡ old.bytes
  pub unsynced : IsTrue tells → new.unsynced ≡ old.unsynced
  pub writes : WritesBytes tells old new

-- The open range becomes the one in which cells may be written from now on. On an error no range is open.
pub record OpensRange {E : Type 0} (tells : Bool) (old new : DiskState) (at len : ℕ) (result : Result (Unit {0}) E) : Type 0 where
  pub ok : IsTrue tells → OnOk result (new.operation ≡ Some (at, len))
  pub err : IsTrue tells → OnErr result (new.operation ≡ None)
  pub cells : IsTrue tells → new.cells ≡ old.cells
  pub bytes : IsTrue tells → new.bytes ≡ old.bytes
  pub unsynced : IsTrue tells → new.unsynced ≡ old.unsynced
  pub earlier : IsTrue tells → new.earlier ≡ old.earlier
  pub moments : Leaves (range_half old) (range_half new) (left (range_half new))
  pub job : JobAsWas old new

-- the range is closed: the cells are now the bytes of the file
pub record RangeIsClosed (old new : DiskState) : Type 0 where
  pub operation : new.operation ≡ None
  pub cells : new.cells ≡ old.bytes

-- the range stays open, over the same cells
pub record RangeStays (old new : DiskState) : Type 0 where
  pub operation : new.operation ≡ old.operation
  pub cells : new.cells ≡ old.cells

pub record ClosesRange {E : Type 0} (tells : Bool) (old new : DiskState) (result : Result (Unit {0}) E) : Type 0 where
  pub ok : IsTrue tells → OnOk result (RangeIsClosed old new)
  pub err : IsTrue tells → OnErr result (RangeStays old new)
  pub bytes : IsTrue tells → new.bytes ≡ old.bytes
  pub unsynced : IsTrue tells → new.unsynced ≡ old.unsynced
  pub earlier : IsTrue tells → new.earlier ≡ old.earlier
  pub moments : AddsNothing (range_half old) (range_half new)
  pub job : JobAsWas old new

-- these cells are within the open range
abbrev pub InRange : ℕ → ℕ → Option (ℕ × ℕ) → Type 0
InRange at n None = ⊥
InRange at n (Some range) = (range.0 ≤ at) × (at + n ≤ range.0 + range.1)
