-- What is visible of a bench over files.
use Rattle.std.specs.Prelude.{◌≡◌, ◌==◌, ◌&&◌, ◌||◌, ◌++◌, ℕ, Bool, true, false, IsTrue, if◌then◌else◌, List, [], ◌∷◌, Option, Some, None}
use Rattle.bench_model.specs.State.{BenchState}
use Rattle.disk_files.specs.DiskState.{over}
use Rattle.disk_files.specs.Untold.{untold_disk}
use Rattle.disk_files.specs.declared.disk.Disk.{Ghosts}
use Rattle.disk_files.specs.declared.disk_bench.DiskBench.{DiskBench}
use Rattle.disk_files.specs.declared.windowed_disk.WindowedDisk.{WindowedDisk}
use Rattle.host_files.specs.declared.file_bench.ShownBench.{ShownBench}
use Rattle.host_files.specs.declared.file_id.FileId.{FileId}
use Rattle.host_files.specs.declared.file_lock.Hold.TheVariants.{Lost}
use Rattle.host_files.specs.declared.host_disk.HostDisk.{HostDisk}

-- a bench over this host's files, where the cells are read through a window
abbrev pub FileBench : (h : Ghosts HostDisk) → Ghosts (WindowedDisk HostDisk h) → Type 0
FileBench h w = ShownBench (DiskBench (WindowedDisk HostDisk h) w)

-- the state that is visible of a bench over files: the number of cells, and the counts of faults
abbrev pub state_of : {h : Ghosts HostDisk} {w : Ghosts (WindowedDisk HostDisk h)} → FileBench h w → BenchState
state_of b = over untold_disk b.bench.cell_count b.bench.store_faults b.bench.device_faults

-- the name of a bench's job file
abbrev pub job_name_of : {h : Ghosts HostDisk} {w : Ghosts (WindowedDisk HostDisk h)} → FileBench h w → List ℕ
job_name_of b = b.bench.disk.disk.job.name

-- the name of a bench's cells file
abbrev pub cells_name_of : {h : Ghosts HostDisk} {w : Ghosts (WindowedDisk HostDisk h)} → FileBench h w → List ℕ
cells_name_of b = b.bench.disk.disk.cells.name

-- the file that was found is this one
abbrev pub is_file : FileId → Option FileId → Bool
is_file file None = false
is_file file (Some found) = (found.device == file.device) && (found.number == file.number)

-- this is the job file or the cells file of a bench
abbrev pub has_file : {B : Type 0} → FileId → ShownBench B → Bool
has_file file b = is_file file b.job || is_file file b.cells

-- one of these benches has this file
abbrev pub has_one : {B : Type 0} → FileId → List (ShownBench B) → Bool
has_one file [] = false
has_one file (b ∷ benches) = if has_file file b then true else has_one file benches

-- a file that may not be there is there, and one of these benches has it
abbrev pub is_taken : {B : Type 0} → Option FileId → List (ShownBench B) → Bool
is_taken None benches = false
is_taken (Some file) benches = has_one file benches

-- A bench that was opened beside others. Where one of them has a file of it, its lock on that file is lost, so each call on it fails.
pub record IsBeside {h : Ghosts HostDisk} {w : Ghosts (WindowedDisk HostDisk h)} (others : List (FileBench h w)) (b : FileBench h w) : Type 0 where
  pub job : IsTrue (is_taken b.job others) → b.bench.disk.disk.job.lock.hold ≡ Lost
  pub cells : IsTrue (is_taken b.cells others) → b.bench.disk.disk.cells.lock.hold ≡ Lost

-- each of these benches was opened beside all those before it
abbrev pub AllBeside : {h : Ghosts HostDisk} {w : Ghosts (WindowedDisk HostDisk h)} → (before benches : List (FileBench h w)) → Type 0
AllBeside before [] = Unit {0}
AllBeside before (b ∷ benches) = IsBeside before b × AllBeside (before ++ b ∷ []) benches
