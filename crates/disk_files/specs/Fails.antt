-- When calls on a host's files fail.
use Rattle.std.specs.Prelude.{◌≡◌, ◌≤◌, ◌<◌, ◌^◌, ◌+◌, ◌⊎◌, ℕ, false, length, Result, IsOk, IsErr, IfOk, IfErr, OnOk, OnErr}
use Rattle.std.specs.IoError.{error_kind}
use Rattle.std.specs.declared.io.Error.{Error}
use Rattle.std.specs.declared.io.ErrorKind.TheVariants.{Interrupted}
use Rattle.faults.specs.Counts.{Rose, HasCause}
use Rattle.bench_model.specs.Act.{Act, FileLen, FileRead, FileWrite, FileCut, FileSync, CellsRead, CellsOpen, CellsSettle, CellsSettleFill, CellsDrop}
use Rattle.disk_files.specs.DiskState.{DiskState}

-- no sync failed in between
pub record KeepsSyncs (old new : DiskState) : Type 0 where
  pub file_whole : new.file_whole ≡ old.file_whole
  pub cells_whole : new.cells_whole ≡ old.cells_whole

-- a call fails only where the count of errors rose
pub record CallEnds {T E : Type 0} (old new : DiskState) (result : Result T E) : Type 0 where
  pub cause : HasCause old.errors new.errors result
  pub interrupted : new.interrupted ≡ old.interrupted
  pub syncs : KeepsSyncs old new

-- How a read or a write of `wanted` bytes ends. It fails only where the count of errors rose, or where a signal interrupted it. An
-- interrupted call is no error and can be made again. A call that was to move bytes and moved none counts as an error.
pub record CallMoves (old new : DiskState) (wanted : ℕ) (result : Result ℕ Error) : Type 0 where
  pub later : old.errors ≤ new.errors
  pub moved : IfOk result (λ n. 0 < n → (new.errors ≡ old.errors) × (new.interrupted ≡ old.interrupted))
  pub nothing : IfOk result (λ n. n ≡ 0 → 0 < wanted → Rose old.errors new.errors)
  pub stopped : IfErr result (λ fault. error_kind fault ≡ Interrupted → (new.errors ≡ old.errors) × (new.interrupted ≡ old.interrupted + 1))
  pub failed : IfErr result (λ fault. (error_kind fault ≡ Interrupted → ⊥) → Rose old.errors new.errors)
  pub syncs : KeepsSyncs old new

-- how a sync of the job file, of its folder or of the cells file ends: a failed sync is remembered for that file
pub record FileSyncEnds {T E : Type 0} (old new : DiskState) (result : Result T E) : Type 0 where
  pub cause : HasCause old.errors new.errors result
  pub interrupted : new.interrupted ≡ old.interrupted
  pub kept : OnOk result (new.file_whole ≡ old.file_whole)
  pub lost : OnErr result (new.file_whole ≡ false)

pub record CellsSyncEnds {T E : Type 0} (old new : DiskState) (result : Result T E) : Type 0 where
  pub cause : HasCause old.errors new.errors result
  pub interrupted : new.interrupted ≡ old.interrupted
  pub kept : OnOk result (new.cells_whole ≡ old.cells_whole)
  pub lost : OnErr result (new.cells_whole ≡ false)

-- a sync of one of the files failed before
abbrev pub IsBroken : DiskState → Type 0
IsBroken d = (d.file_whole ≡ false) ⊎ (d.cells_whole ≡ false)

-- Several calls on the files, up to the first that fails. They fail only where the count of errors rose, or where a sync failed
-- before. Where they go through, no error came in between.
pub record Fails {T E : Type 0} (old new : DiskState) (result : Result T E) : Type 0 where
  pub later : old.errors ≤ new.errors
  pub on_fault : IsErr result → Rose old.errors new.errors ⊎ IsBroken old
  pub on_ok : IsOk result → (new.errors ≡ old.errors) × KeepsSyncs old new

-- A call of the bench fails only where its files did, or where the range of the file ends at 2^64 or above.
abbrev pub FailsAsFiles : DiskState → DiskState → Act → Type 0
FailsAsFiles old new (FileLen result) = Fails old new result
FailsAsFiles old new (FileRead at before after result) = at + length before < 2 ^ 64 → Fails old new result
FailsAsFiles old new (FileWrite at bytes result) = at + length bytes < 2 ^ 64 → Fails old new result
FailsAsFiles old new (FileCut len result) = Fails old new result
FailsAsFiles old new (FileSync result) = Fails old new result
FailsAsFiles old new (CellsRead at before after result) = Fails old new result
FailsAsFiles old new (CellsOpen at len result) = Fails old new result
FailsAsFiles old new (CellsSettle bytes result) = Fails old new result
FailsAsFiles old new (CellsSettleFill value result) = Fails old new result
FailsAsFiles old new (CellsDrop result) = Fails old new result
