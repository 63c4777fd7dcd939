-- Which of the files and cells that a stop may leave are picked for a bench that lost its power.
use Rattle.std.specs.Prelude.{◌≡◌, ℕ, List, replicate, Option}
use Rattle.bench_model.specs.Kept.{Kept, IsFilled}
use Rattle.bench_model.specs.Record.{in_range}
use Rattle.bench_model.specs.declared.pick.Pick.{Pick}
use Rattle.bench_model.specs.declared.pick.Pick.TheVariants.{AsWritten, AsOld, Filled}

-- the picked file: as a read gives it, as the last sync left it, or the longest one with one value at all pending bytes
abbrev pub IsPickedFile : Pick → Kept → List ℕ → List ℕ → Type 0
IsPickedFile AsWritten k old new = new ≡ old
IsPickedFile AsOld k old new = new ≡ k.synced
IsPickedFile (Filled value) k old new = IsFilled value k new

-- the picked cells: as they are, or with one value throughout the range of the open operation
abbrev pub picked_cells : Pick → Option (ℕ × ℕ) → List ℕ → List ℕ
picked_cells AsWritten operation cells = cells
picked_cells AsOld operation cells = cells
picked_cells (Filled value) operation cells = in_range (λ n. replicate n value) operation cells
