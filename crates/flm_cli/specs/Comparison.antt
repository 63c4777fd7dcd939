-- What `compare` and `verify` have in common: both compare the cells with bytes.
use Rattle.std.specs.Prelude.{◌≡◌, ◌⊎◌, ℕ, true, IsTrue, ◌≢◌}
use Rattle.bench_model.specs.State.{cells_half}
use Rattle.bench_model.specs.History.{AddsNothing}
use Rattle.bench_model.specs.Calls.{FileStays, CellsStay}
use Rattle.board_file.specs.Limits.{size_of}
use Rattle.report_text.specs.Refusal.{device_fault, output_fault, differs}
use Rattle.report_text.specs.End.{end_text}
use Rattle.report_text.specs.declared.end.End.TheVariants.{Same}
use Rattle.command_files.specs.Files.{Aim}
use Rattle.command_files.specs.Call.{BenchCall, SinkCall, Answer, done, refused}
use Rattle.command_files.specs.Said.{PrintsText}
use Rattle.command_files.specs.Answered.{device, output, IsCounted, yields, IsUnless}
use Rattle.device_dump.specs.Looks.{IsBrokenOff, IsStillOpen}

-- What each answer leaves of the cells. An answer that comes before the cells are looked at leaves them as they were.
abbrev pub Stands : BenchCall → Answer → Type 0
Stands bench done = IsBrokenOff bench
Stands bench (refused (differs at wanted found)) = IsBrokenOff bench
Stands bench (refused output_fault) = IsBrokenOff bench
Stands bench (refused device_fault) = IsBrokenOff bench ⊎ IsStillOpen bench
Stands bench (refused _) = CellsStay bench.before bench.after

-- What `compare` and `verify` leave with an answer.
pub record ComparisonLeaves (bench : BenchCall) (out : SinkCall) (answer : Answer) : Type 0 where
  pub prints : PrintsText out (end_text Same) answer
  pub stands : Stands bench answer
  -- the job file is as it was, and a stop at any moment leaves only cells that a stop at entry may leave
  pub file : FileStays bench.before bench.after
  pub count : bench.after.cell_count ≡ bench.before.cell_count
  pub stops : AddsNothing (cells_half bench.before) (cells_half bench.after)

-- the bench has another number of cells than the regions have together
pub record HasOtherSize (bench : BenchCall) (aim : Aim) (wanted found : ℕ) : Type 0 where
  pub wanted_is : wanted ≡ size_of aim.board.regions
  pub found_is : found ≡ bench.before.cell_count
  pub unequal : wanted ≢ found

-- When each answer comes once nothing is refused: the cells agree, or a cell differs. A fault of the device may come anyway; a fault of
-- `out` comes only where the cells agree.
abbrev pub Found : Type 0 → (ℕ → ℕ → ℕ → Type 0) → Answer → Type 0
Found Agrees Differs done = Agrees
Found Agrees Differs (refused device_fault) = Unit {0}
Found Agrees Differs (refused output_fault) = Agrees
Found Agrees Differs (refused (differs at wanted found)) = Differs at wanted found
Found Agrees Differs (refused _) = ⊥

-- the end of a comparison once nothing is refused: what was found, what it leaves, and the counts of faults
pub record Compares (bench : BenchCall) (out : SinkCall) (Agrees : Type 0) (Differs : ℕ → ℕ → ℕ → Type 0) (answer : Answer) : Type 0 where
  pub found : Found Agrees Differs answer
  pub leaves : ComparisonLeaves bench out answer
  pub device_count : IsCounted bench.before.device_faults bench.after.device_faults device answer
  pub out_count : IsCounted out.before.faults out.after.faults output answer

-- the answer is done, a difference, or one that yields
abbrev pub IsCompared : Answer → Type 0
IsCompared done = Unit {0}
IsCompared (refused (differs at wanted found)) = Unit {0}
IsCompared (refused refusal) = yields (refused refusal) ≡ true

-- The other direction: what a comparison must answer.
pub record IsDue (bench : BenchCall) (Agrees : Type 0) (Differs : ℕ → ℕ → ℕ → Type 0) (answer : Answer) : Type 0 where
  pub different : (at wanted found : ℕ) → IsTrue bench.tells → Differs at wanted found → IsUnless answer (refused (differs at wanted found))
  pub same : IsTrue bench.tells → Agrees → IsUnless answer done
  pub complete : IsCompared answer
