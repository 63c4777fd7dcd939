-- What each refusal of `open` and `begin` says about the file and the number of cells.
use Rattle.std.specs.Prelude.{◌≡◌, ◌≢◌, ℕ, List}
use Rattle.job_text.specs.Files.{IsFree}
use Rattle.board_file.specs.Limits.{size_of}
use Rattle.job_text.specs.Stands.{IsSomeJob, IsFoundDamaged, IsNotAJob}
use Rattle.job_text.specs.declared.job.Class.{Class}
use Rattle.job_text.specs.declared.job.Class.TheVariants as class
use Rattle.job_file.specs.declared.fault.LookFault.{LookFault}
use Rattle.job_file.specs.declared.fault.LookFault.TheVariants as look
use Rattle.job_file.specs.declared.fault.OpenFault.{OpenFault}
use Rattle.job_file.specs.declared.fault.OpenFault.TheVariants as opening
use Rattle.job_file.specs.declared.fault.BeginFault.{BeginFault}
use Rattle.job_file.specs.declared.fault.BeginFault.TheVariants as beginning

-- a failed look at the file, as the refusal of `open` and as that of `begin`
abbrev pub open_of : LookFault → OpenFault
open_of look.OutOfMemory = opening.OutOfMemory
open_of look.StoreFault = opening.StoreFault

abbrev pub begin_of : LookFault → BeginFault
begin_of look.OutOfMemory = beginning.OutOfMemory
begin_of look.StoreFault = beginning.StoreFault

-- the file stands for a job for `said` cells, the bench has `found` cells (`count`), and the two numbers differ
pub record IsOtherSize (file : List ℕ) (count said found : ℕ) : Type 0 where
  pub some : IsSomeJob file
  pub said_is : said ≡ size_of some.board.regions
  pub found_is : found ≡ count
  pub differ : said ≢ found

-- what each refusal of `open` says of the file as read and of the number of cells
abbrev pub IsOpenFault : List ℕ → ℕ → OpenFault → Type 0
IsOpenFault file count opening.OutOfMemory = Unit {0}
IsOpenFault file count opening.NoJob = IsFree file
IsOpenFault file count (opening.NotAJob at) = IsNotAJob at file
IsOpenFault file count opening.StoreFault = Unit {0}
IsOpenFault file count (opening.CellsDiffer said found) = IsOtherSize file count said found
IsOpenFault file count (opening.Damaged kept found) = IsFoundDamaged kept found file

-- what each refusal of `begin` says of the file as read, for a job of `size` cells on a bench of `count` cells
abbrev pub IsBeginFault : List ℕ → ℕ → ℕ → BeginFault → Type 0
IsBeginFault file size count beginning.OutOfMemory = Unit {0}
IsBeginFault file size count beginning.JobOpen = IsSomeJob file
IsBeginFault file size count beginning.StoreFault = Unit {0}
IsBeginFault file size count beginning.DeviceFault = Unit {0}
IsBeginFault file size count (beginning.CellsDiffer said found) = IsFree file × (said ≡ size) × (found ≡ count) × (said ≢ found)
IsBeginFault file size count (beginning.NotAJob at) = IsNotAJob at file
IsBeginFault file size count (beginning.Damaged kept found) = IsFoundDamaged kept found file

-- What a refusal says for itself, on every bench. `CellsDiffer` gives the number of cells of the job and that of the device, and they
-- differ. `Damaged` gives two hashes that differ.

abbrev pub IsSoundOpen : ℕ → OpenFault → Type 0
IsSoundOpen count (opening.CellsDiffer said found) = (found ≡ count) × (said ≢ found)
IsSoundOpen count opening.OutOfMemory = Unit {0}
IsSoundOpen count opening.NoJob = Unit {0}
IsSoundOpen count (opening.NotAJob at) = Unit {0}
IsSoundOpen count opening.StoreFault = Unit {0}
IsSoundOpen count (opening.Damaged kept found) = kept ≢ found

abbrev pub IsSoundBegin : ℕ → ℕ → BeginFault → Type 0
IsSoundBegin size count (beginning.CellsDiffer said found) = (said ≡ size) × (found ≡ count) × (said ≢ found)
IsSoundBegin size count beginning.OutOfMemory = Unit {0}
IsSoundBegin size count beginning.JobOpen = Unit {0}
IsSoundBegin size count beginning.StoreFault = Unit {0}
IsSoundBegin size count beginning.DeviceFault = Unit {0}
IsSoundBegin size count (beginning.NotAJob at) = Unit {0}
IsSoundBegin size count (beginning.Damaged kept found) = kept ≢ found

-- the hashes of a class `Damaged` differ
abbrev pub IsSoundClass : Class → Type 0
IsSoundClass class.Free = Unit {0}
IsSoundClass (class.Stands job) = Unit {0}
IsSoundClass (class.Damaged damage) = damage.kept ≢ damage.found
IsSoundClass (class.NotAJob at) = Unit {0}
