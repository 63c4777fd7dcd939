-- What a host's two files mean: the job file and the cells file.
use Rattle.std.specs.Prelude.{◌≡◌, ℕ, List, Bool, true, Option}
use Rattle.bench_model.specs.History.{Half, Stays}
use Rattle.bench_model.specs.State.{BenchState}

pub record DiskState : Type 1 where
  -- the bytes that a read of the job file gives, and whether its entry in the folder is on the disk
  pub file : List ℕ
  pub entry : Bool
  -- the bytes that a read of the cells file gives
  pub bytes : List ℕ
  -- the range of cells that may now be written, if one is open, and the cells as they were when it was opened
  pub cells : List ℕ
  pub operation : Option (ℕ × ℕ)
  -- whether cells may have been written and not synced, and whether that may have been in an earlier run
  pub unsynced : Bool
  pub earlier : Bool
  -- how many calls have failed, and how many others a signal interrupted, so that they did nothing
  pub errors : ℕ
  pub interrupted : ℕ
  -- whether each sync of the job file and its folder has gone through so far, and each sync of the cells file
  pub file_whole : Bool
  pub cells_whole : Bool
  -- the current moment, and what a stop may leave at each moment up to it
  pub moment : ℕ
  pub files_at : ℕ → List ℕ → Type 0
  pub cells_at : ℕ → List ℕ → Type 0

abbrev pub job_half : DiskState → Half
job_half d = record { now = d.moment; at = d.files_at }

abbrev pub range_half : DiskState → Half
range_half d = record { now = d.moment; at = d.cells_at }

-- the state of the job file is as it was, at each moment
pub record JobAsWas (old new : DiskState) : Type 0 where
  pub file : new.file ≡ old.file
  pub entry : new.entry ≡ old.entry
  pub whole : new.file_whole ≡ old.file_whole
  pub half : Stays (job_half old) (job_half new)

-- the state of the cells is as it was, at each moment
pub record CellsAsWere (old new : DiskState) : Type 0 where
  pub bytes : new.bytes ≡ old.bytes
  pub cells : new.cells ≡ old.cells
  pub operation : new.operation ≡ old.operation
  pub unsynced : new.unsynced ≡ old.unsynced
  pub earlier : new.earlier ≡ old.earlier
  pub whole : new.cells_whole ≡ old.cells_whole
  pub half : Stays (range_half old) (range_half new)

-- the state of a bench over these files
abbrev pub over : DiskState → (cell_count store_faults device_faults : ℕ) → BenchState
over d cell_count store_faults device_faults = record {
  file = d.file;
  cells = d.cells;
  operation = d.operation;
  cell_count = cell_count;
  store_faults = store_faults;
  device_faults = device_faults;
  moment = d.moment;
  files_at = d.files_at;
  cells_at = d.cells_at;
}

-- The state of a disk with the job file and the cells of a bench, these bytes of the cells file, and this count of errors.
-- None of its calls is interrupted, and no sync of its cells fails.
abbrev pub disk_over : BenchState → Bool → List ℕ → Bool → Bool → ℕ → Bool → DiskState
disk_over b entry bytes unsynced earlier errors file_whole = record {
  file = b.file;
  entry = entry;
  bytes = bytes;
  cells = b.cells;
  operation = b.operation;
  unsynced = unsynced;
  earlier = earlier;
  errors = errors;
  interrupted = 0;
  file_whole = file_whole;
  cells_whole = true;
  moment = b.moment;
  files_at = b.files_at;
  cells_at = b.cells_at;
}
