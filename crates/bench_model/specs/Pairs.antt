-- What a stop may leave of both halves at once.
use Rattle.std.specs.Prelude.{◌≤◌, ◌<◌, ℕ, List}
use Rattle.bench_model.specs.History.{GoesOn}
use Rattle.bench_model.specs.State.{BenchState, file_half, cells_half}

-- a stop at any moment from `old` to `new` leaves a file and cells that are related by R
pub record PairsLeave (old new : BenchState) (R : List ℕ → List ℕ → Type 0) : Type 0 where
  pub files : GoesOn (file_half old) (file_half new)
  pub cells : GoesOn (cells_half old) (cells_half new)
  pub each : (k : ℕ) (f c : List ℕ) → old.moment ≤ k → k ≤ new.moment → new.files_at k f → new.cells_at k c → R f c

-- A stop at a moment from `old` to `new` leaves a pair with First before the turn, and a pair with Second from the turn on. The turn may be
-- later than `new`: then each pair has First.
pub record PairsInTurn (old new : BenchState) (turn : ℕ) (First Second : List ℕ → List ℕ → Type 0) : Type 0 where
  pub started : old.moment ≤ turn
  pub later : old.moment ≤ new.moment
  pub before : (k : ℕ) (f c : List ℕ) → old.moment ≤ k → k ≤ new.moment → k < turn → new.files_at k f → new.cells_at k c → First f c
  pub from : (k : ℕ) (f c : List ℕ) → turn ≤ k → k ≤ new.moment → new.files_at k f → new.cells_at k c → Second f c
