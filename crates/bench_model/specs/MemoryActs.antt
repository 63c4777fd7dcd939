-- What exactly each call does to a bench in memory: when it fails, what it reads, and all that it leaves.
use Rattle.std.specs.Prelude.{◌≡◌, ◌≤◌, ◌+◌, ℕ, List, length, take, drop, replicate, Option, Some, None, ⊤, Result, OnOk, OnErr}
use Rattle.faults.specs.FailingCalls.{Ends}
use Rattle.bench_model.specs.Act.{Act, FileLen, FileRead, FileWrite, FileCut, FileSync, CellsRead, CellsOpen, CellsSettle, CellsSettleFill, CellsDrop}
use Rattle.bench_model.specs.Calls.{written}
use Rattle.bench_model.specs.Record.{HasRoom, in_range, broken, wrote, cut, synced, opened, settled, filled, broken_off}
use Rattle.bench_model.specs.Shown.{Memory, shown, next_garbage, store_went, store_failed, stored, device_went, device_failed, worked, let_go}
use Rattle.bench_model.specs.declared.memory.MemoryBench.{MemoryBench}

-- a read fills its buffer if it succeeds, and leaves it as it was if it fails
pub record Fills {T E : Type 0} (held : List ℕ) (at : ℕ) (before after : List ℕ) (result : Result T E) : Type 0 where
  pub ok : OnOk result (after ≡ take (length before) (drop at held))
  pub err : OnErr result (after ≡ before)

-- a call that breaks off the operation: it is recorded only if an operation is open
abbrev pub BreaksOff : {T E : Type 0} → Option (ℕ × ℕ) → Memory → Result T E → Memory → Type 0
BreaksOff None m result after = Ends result m.device ⊤ after (device_went m) (device_failed m)
BreaksOff (Some range) m result after = Ends result m.device (HasRoom 0 m.history) after
    (let_go (broken_off (next_garbage m)) (broken (next_garbage m) m.operation m.cells) m) (device_failed m)

abbrev pub Acts : Memory → Act → Memory → Type 0
Acts m (FileLen result) after = Ends result m.store ⊤ after (store_went m) (store_failed m)
Acts m (FileRead at before out result) after = Ends result m.store ⊤ after (store_went m) (store_failed m) × Fills m.file at before out result
Acts m (FileWrite at bytes result) after = Ends result m.store ((at + length bytes ≤ m.file_room) × HasRoom (length bytes) m.history) after
    (stored (wrote at bytes) (written at bytes m.file) m) (store_failed m)
Acts m (FileCut len result) after = Ends result m.store (HasRoom 0 m.history) after (stored (cut len) (take len m.file) m) (store_failed m)
Acts m (FileSync result) after = Ends result m.store (HasRoom 0 m.history) after (stored synced m.file m) (store_failed m)
Acts m (CellsRead at before out result) after = Ends result m.device ⊤ after (device_went m) (device_failed m) × Fills m.cells at before out result
Acts m (CellsOpen at len result) after = Ends result m.device (HasRoom 0 m.history) after (worked (opened at len) m.cells (Some (at, len)) m) (device_failed m)
Acts m (CellsSettle bytes result) after = Ends result m.device (HasRoom (length bytes) m.history) after
    (worked (settled bytes) (in_range (λ n. bytes) m.operation m.cells) None m) (device_failed m)
Acts m (CellsSettleFill value result) after = Ends result m.device (HasRoom 0 m.history) after
    (worked (filled value) (in_range (λ n. replicate n value) m.operation m.cells) None m) (device_failed m)
Acts m (CellsDrop result) after = BreaksOff m.operation m result after

abbrev pub memory_acts : MemoryBench → Act → MemoryBench → Type 0
memory_acts before act after = Acts (shown before) act (shown after)
