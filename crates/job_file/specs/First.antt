-- A call that begins with the sync of the job file.
use Rattle.std.specs.Prelude.{◌≡◌, Bool, IsTrue, Result, OnOk, OnErr}
use Rattle.bench_model.specs.Act.{Act, FileSync}
use Rattle.bench_model.specs.Does.{SyncsFile}
use Rattle.bench_model.specs.History.{GoesOn}
use Rattle.bench_model.specs.State.{BenchState, file_half}
use Rattle.bench_model.specs.declared.bench_fault.StoreFault.{StoreFault}

-- A call syncs the job file before it does anything else. If the sync fails, the answer is the fault of the job file, no other call is
-- made, and the bench is as the sync left it. If the sync succeeds, a stop after it leaves the file as read at the entry, and nothing
-- else. All other calls come after it, so what the call reads of the file, and what it refuses, is what such a stop leaves.
pub record SyncsFirst {B : Type 0} (tells : Bool) (state : B → BenchState) (acts : B → Act → B → Type 0) (before after : B) (FileFault : Type 0)
    : Type 0 where
  pub result : Result (Unit {0}) StoreFault
  pub synced : B
  pub acted : acts before (FileSync result) synced
  pub does : SyncsFile tells (state before) (state synced) result
  pub failed : OnErr result ((after ≡ synced) × FileFault)
  pub goes_on : IsTrue tells → OnOk result (GoesOn (file_half (state synced)) (file_half (state after)))
