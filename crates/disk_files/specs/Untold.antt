-- The state of files with contents that contracts don't see.
use Rattle.std.specs.Prelude.{[], None, true, false}
use Rattle.disk_files.specs.DiskState.{DiskState}

abbrev pub untold_disk : DiskState
untold_disk = record {
  file = [];
  entry = false;
  bytes = [];
  cells = [];
  operation = None;
  unsynced = false;
  earlier = false;
  errors = 0;
  interrupted = 0;
  file_whole = true;
  cells_whole = true;
  moment = 0;
  files_at = λ k file. ⊥;
  cells_at = λ k cells. ⊥;
}
