-- A bench in memory after a loss of power.
use Rattle.std.specs.Prelude.{◌≡◌, ℕ, List, [], None}
use Rattle.bench_model.specs.History.{LeftOnly}
use Rattle.bench_model.specs.State.{BenchState, file_half, cells_half}
use Rattle.bench_model.specs.Record.{at_rest, held_now}
use Rattle.bench_model.specs.Picked.{IsPickedFile, picked_cells}
use Rattle.bench_model.specs.Shown.{Memory}
use Rattle.bench_model.specs.declared.pick.Pick.{Pick}

-- nothing is pending and no operation is open
pub record IsAtRest (b : BenchState) : Type 0 where
  pub idle : b.operation ≡ None
  pub file : LeftOnly b.file (file_half b)
  pub cells : LeftOnly b.cells (cells_half b)

-- the file and the cells are those that the pick names
pub record IsPicked (pick : Pick) (old : Memory) (file cells : List ℕ) : Type 0 where
  pub same_file : IsPickedFile pick (held_now old.history).kept old.file file
  pub same_cells : cells ≡ picked_cells pick old.operation old.cells

-- a bench with this file and these cells, no open operation and an empty record; all else stays
abbrev pub after_loss : (file cells : List ℕ) → Memory → Memory
after_loss file cells m = record m {
  file = file;
  cells = cells;
  operation = None;
  history = record m.history { made = at_rest file cells; events = []; used = 0 };
}
