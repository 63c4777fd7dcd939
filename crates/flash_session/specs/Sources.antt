-- What is wanted of the cells of a region, and the plan that a survey makes for it.
use Rattle.std.specs.Prelude.{◌≡◌, ◌<◌, ◌^◌, ℕ, Bool, IsTrue, is_some, All, List, length, take, drop}
use Rattle.bench_model.specs.State.{BenchState}
use Rattle.board_file.specs.Limits.{size_of}
use Rattle.board_file.specs.declared.board.Weights.{Weights}
use Rattle.byte_map.specs.Image.{over}
use Rattle.flm_descriptor.specs.Shown.{Shown as AlgorithmShown}
use Rattle.job_text.specs.Stands.{StandsFor}
use Rattle.page_geometry.specs.Geometry.{Geometry}
use Rattle.erase_planner.specs.Plans.{Chosen, IsLeastPlan}
use Rattle.flash_session.specs.Goals.{goal_in}
use Rattle.flash_session.specs.declared.region_survey.Source.{Source}
use Rattle.flash_session.specs.declared.region_survey.Source.TheVariants as from

-- a source says what is wanted of the cells of a bench: it is an image, or the goal of a job with as many cells whose file is the bench's
abbrev pub IsSource : Bool → Source → BenchState → Type 0
IsSource tells (from.Job job goal) s = (size_of job.now.board.regions ≡ s.cell_count) × (IsTrue tells → StandsFor job.now s.file)
IsSource tells (from.Cells image) s = Unit {0}

-- a source is an image over the cells, so nothing is read from the file
abbrev pub IsOverCells : Source → Type 0
IsOverCells (from.Job job goal) = ⊥
IsOverCells (from.Cells image) = Unit {0}

-- these bytes are wanted of these cells; the first cell is at `place` among all cells and has this address
abbrev pub AreWanted : Bool → Source → (place address : ℕ) → (file cells wanted : List ℕ) → Type 0
AreWanted tells (from.Job job goal) place address file cells wanted = IsTrue tells → wanted ≡ take (length cells) (drop place (goal_in job.now goal file))
AreWanted tells (from.Cells image) place address file cells wanted = wanted ≡ over image.now address cells

-- The plan leads from the cells of a region, as they were read, to what is wanted of them. Where the bench tells its contents, these are
-- the cells from the region's place on.
pub record IsMadeFrom (tells : Bool) (source : Source) (w : Weights) (a : AlgorithmShown) (l : Geometry) (start : ℕ) (s : BenchState)
    (plan : Chosen) : Type 0 where
  pub cells : List ℕ
  pub wanted : List ℕ
  pub long : length cells ≡ a.device.size
  pub told : IsTrue tells → cells ≡ take a.device.size (drop start s.cells)
  pub are : AreWanted tells source start a.device.base s.file cells wanted
  pub bytes : All (λ v. v < 2 ^ 8) cells
  pub wanted_bytes : All (λ v. v < 2 ^ 8) wanted
  pub least : IsLeastPlan l w (is_some a.entries.erase_chip) a.device.empty cells wanted plan
  pub entry : IsTrue plan.chip → IsTrue (is_some a.entries.erase_chip)
