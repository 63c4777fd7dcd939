-- A bench that stops after a number of calls.
use Rattle.std.specs.Prelude.{◌≡◌, ◌<◌, ◌+◌, ◌↔◌, ℕ, List, IsErr}
use Rattle.faults.specs.Counts.{raised}
use Rattle.bench_model.specs.Act.{Act, FileLen, FileRead, FileWrite, FileCut, FileSync, CellsRead, CellsOpen, CellsSettle, CellsSettleFill, CellsDrop}
use Rattle.bench_model.specs.State.{BenchState}
use Rattle.bench_model.specs.declared.stop.StopBench.{StopBench}

-- the meaning of a stopping bench: that of its inner bench, with its own faults added to the counts
abbrev pub stopped : {B : Type 0} → (B → BenchState) → StopBench B → BenchState
stopped state s = let b = state s.inner in record b { store_faults = b.store_faults + s.store_faults; device_faults = b.device_faults + s.device_faults }

-- a call that passes: the inner bench makes exactly this call, and no fault of the outer one is added
pub record Passes {B : Type 0} (acts : B → Act → B → Type 0) (before : StopBench B) (act : Act) (after : StopBench B) : Type 0 where
  pub same : acts before.inner act after.inner
  pub calls : after.calls + 1 ≡ before.calls
  pub store : after.store_faults ≡ before.store_faults
  pub device : after.device_faults ≡ before.device_faults

-- a call that counts one store fault, or one device fault, of the outer bench and changes nothing else
pub record StoreFails {B : Type 0} (before after : StopBench B) : Type 0 where
  pub same : after.inner ≡ before.inner
  pub calls : after.calls ≡ before.calls
  pub store : after.store_faults ≡ raised before.store_faults
  pub device : after.device_faults ≡ before.device_faults

pub record DeviceFails {B : Type 0} (before after : StopBench B) : Type 0 where
  pub same : after.inner ≡ before.inner
  pub calls : after.calls ≡ before.calls
  pub store : after.store_faults ≡ before.store_faults
  pub device : after.device_faults ≡ raised before.device_faults

-- a call that doesn't pass: it fails and leaves its buffer
abbrev pub Refuses : {B : Type 0} → StopBench B → Act → StopBench B → Type 0
Refuses before (FileLen result) after = IsErr result × StoreFails before after
Refuses before (FileRead at old new result) after = IsErr result × (new ≡ old) × StoreFails before after
Refuses before (FileWrite at bytes result) after = IsErr result × StoreFails before after
Refuses before (FileCut len result) after = IsErr result × StoreFails before after
Refuses before (FileSync result) after = IsErr result × StoreFails before after
Refuses before (CellsRead at old new result) after = IsErr result × (new ≡ old) × DeviceFails before after
Refuses before (CellsOpen at len result) after = IsErr result × DeviceFails before after
Refuses before (CellsSettle bytes result) after = IsErr result × DeviceFails before after
Refuses before (CellsSettleFill value result) after = IsErr result × DeviceFails before after
Refuses before (CellsDrop result) after = IsErr result × DeviceFails before after

-- exactly what a call of a stopping bench does
pub record StopActs {B : Type 0} (acts : B → Act → B → Type 0) (before : StopBench B) (act : Act) (after : StopBench B) : Type 0 where
  pub passes : 0 < before.calls → Passes acts before act after
  pub stops : before.calls ≡ 0 → Refuses before act after

-- two benches have the same contents and moments, and a stop leaves the same
pub record IsSameButFaults (a b : BenchState) : Type 0 where
  pub file : b.file ≡ a.file
  pub cells : b.cells ≡ a.cells
  pub operation : b.operation ≡ a.operation
  pub count : b.cell_count ≡ a.cell_count
  pub moment : b.moment ≡ a.moment
  pub files_at : (k : ℕ) (f : List ℕ) → b.files_at k f ↔ a.files_at k f
  pub cells_at : (k : ℕ) (c : List ℕ) → b.cells_at k c ↔ a.cells_at k c

pub record IsSameBench (a b : BenchState) : Type 0 where
  pub contents : IsSameButFaults a b
  pub store_faults : b.store_faults ≡ a.store_faults
  pub device_faults : b.device_faults ≡ a.device_faults
