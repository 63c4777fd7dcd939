-- The meaning of a bench in memory.
use Rattle.std.specs.Prelude.{◌≡◌, ◌<◌, ◌≤◌, ◌+◌, ◌↔◌, ℕ, List, length, take, Option}
use Rattle.std.specs.Option.{ForSome}
use Rattle.std.proofs.Common.{subst, sym}
use Rattle.std.proofs.Math.Nat.{le_refl}
use Rattle.std.proofs.lemmas.List.{take_all}
use Rattle.bench_model.specs.State.{BenchState, SameOutside}
use Rattle.bench_model.specs.Kept.{IsLeft}
use Rattle.bench_model.specs.Record.{Event, Held, Recorded, FileOf, CellsOf, half_of, replay, held_now}

-- the file, the cells and the open operation are those of the record's replay
pub record InStep (now : Held) (file cells : List ℕ) (operation : Option (ℕ × ℕ)) : Type 0 where
  pub same_file : now.kept.file ≡ file
  pub same_cells : now.cells ≡ cells
  pub same_operation : now.operation ≡ operation
  pub left : IsLeft now.kept file
  pub enough : now.kept.least ≤ length now.kept.synced
  pub older : length now.kept.synced ≤ now.kept.greatest
  pub in_range : ForSome operation (λ range. (0 < range.1) × (range.0 + range.1 ≤ length cells))

abbrev pub memory_state : (file cells : List ℕ) → Option (ℕ × ℕ) → (store_faults device_faults : ℕ) → Recorded → BenchState
memory_state file cells operation store_faults device_faults r = record {
  file = file;
  cells = cells;
  operation = operation;
  cell_count = length cells;
  store_faults = store_faults;
  device_faults = device_faults;
  moment = length r.events;
  files_at = (half_of FileOf r).at;
  cells_at = (half_of CellsOf r).at;
}

-- What a stop may leave now.
module _ (r : Recorded) (file cells : List ℕ) (operation : Option (ℕ × ℕ)) (in_step : InStep (held_now r) file cells operation) where
  all : take (length r.events) r.events ≡ r.events
  all = take_all (length r.events) r.events (le_refl (length r.events))

  pub left_as_read : IsLeft (replay (take (length r.events) r.events) r.made).kept file
  left_as_read = subst (λ (l : List Event). IsLeft (replay l r.made).kept file) (sym all) in_step.left

  pub left_as_told : (x : List ℕ) → CellsOf (replay (take (length r.events) r.events) r.made) x ↔ SameOutside operation cells x
  left_as_told x = (
    (λ at. subst (λ (o : Option (ℕ × ℕ)). SameOutside o cells x) in_step.same_operation
        (subst (λ (c : List ℕ). SameOutside (held_now r).operation c x) in_step.same_cells
        (subst (λ (l : List Event). CellsOf (replay l r.made) x) all at))),
    (λ told. subst (λ (l : List Event). CellsOf (replay l r.made) x) (sym all)
        (subst (λ (c : List ℕ). SameOutside (held_now r).operation c x) (sym in_step.same_cells)
        (subst (λ (o : Option (ℕ × ℕ)). SameOutside o cells x) (sym in_step.same_operation) told))),
  )
