-- The session of a job that was opened, on benches that tell their contents.
use Rattle.std.specs.Prelude.{◌≡◌, ℕ, List}
use Rattle.bench_model.specs.State.{SameOutside}
use Rattle.bench_model.specs.History.{left, AddsNothing, LeftOnly}
use Rattle.bench_model.specs.Pairs.{PairsLeave}
use Rattle.bench_model.specs.State.{BenchState, file_half, cells_half, Left}
use Rattle.board_file.specs.Limits.{size_of}
use Rattle.job_text.specs.Stands.{StandsFor}
use Rattle.job_text.specs.declared.job.Job as code

-- The job of the file was opened between the states `a` and `b`. The file is as read, and the cells outside an operation open at `a` are
-- as they were. A stop leaves what a stop at `a` may leave.
pub record IsOpened (a b : BenchState) (j : code.Job) : Type 0 where
  pub stands : StandsFor j a.file
  pub sized : size_of j.board.regions ≡ a.cell_count
  pub file : b.file ≡ a.file
  pub same : SameOutside a.operation a.cells b.cells
  pub only : LeftOnly a.file (file_half b)
  pub pairs : PairsLeave a b (Left a)
  pub halves : AddsNothing (cells_half a) (cells_half b)
  pub exact : (x : List ℕ) → left (cells_half a) x → SameOutside a.operation a.cells x
