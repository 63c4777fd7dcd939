-- The meaning of a bench that doesn't show its contents, such as one over real files.
use Rattle.std.specs.Prelude.{IsTrue, false, ℕ, [], None}
use Rattle.std.proofs.lemmas.Bool.{false≢true}
use Rattle.bench_model.specs.State.{BenchState}

-- only the number of cells and the counts of faults are known: nothing is said of what a stop leaves
abbrev pub untold_state : (cell_count store_faults device_faults : ℕ) → BenchState
untold_state cell_count store_faults device_faults = record {
  file = [];
  cells = [];
  operation = None;
  cell_count = cell_count;
  store_faults = store_faults;
  device_faults = device_faults;
  moment = 0;
  files_at = λ k file. ⊥;
  cells_at = λ k cells. ⊥;
}

-- a law of contents holds of a bench that doesn't show them
pub untold_law : {A : Type 0} → IsTrue false → A
untold_law told = absurd (false≢true told)
