-- All that a demonstration is made of, except the bench.
use Rattle.std.specs.Prelude.{◌≡◌, ℕ, [], ◌∷◌}
use Rattle.board_file.specs.Shown as board
use Rattle.flm_descriptor.specs.Shown as flm
use Rattle.page_geometry.specs.Geometry.{Geometry}
use Rattle.erase_planner.specs.Plans.{Chosen}
use Rattle.job_text.specs.Fits.{Suits}
use Rattle.demo_job.specs.Made.{cells_of, image_of, laid_of, stop_of}
use Rattle.demo_job.specs.Fixture as fixture
use Rattle.demo_job.specs.Fixture.{IsFixture}
use Rattle.demo_job.specs.Plan.{erased, programmed}
use Rattle.demo_job.specs.declared.fixture.Fixture.{Fixture}
use Rattle.demo_job.specs.declared.scene.Scene.{Scene}
use Rattle.demo_job.specs.declared.first_plan.Counts.{Counts}

abbrev pub fixture_of : Fixture → fixture.Fixture
fixture_of t = record { board = board.shown t.board; file = t.flm; algorithm = flm.shown t.algorithm }

-- the scene is that of a seed, and its parts suit one another
pub record IsScene (seed : ℕ) (scene : Scene) : Type 0 where
  pub cells : scene.made.cells.items ≡ cells_of seed
  pub image : scene.made.image ≡ image_of seed
  pub calls : scene.made.calls ≡ stop_of seed
  pub fixture : IsFixture (fixture_of scene.fixture)
  pub suits : Suits (board.shown scene.fixture.board) (flm.shown scene.fixture.algorithm ∷ []) scene.made.image
  pub goal : scene.goal.items ≡ laid_of seed
  pub base : scene.fixture.algorithm.device.base ≡ 0x08000000
  pub size : scene.fixture.algorithm.device.size ≡ 65536

-- the counts are those of a plan: the sectors that it erases, the pages that it programs, and its cost
pub record IsCounted (l : Geometry) (plan : Chosen) (counts : Counts) : Type 0 where
  pub sectors : counts.sectors ≡ erased l plan
  pub pages : counts.pages ≡ programmed l plan
  pub cost : counts.cost ≡ plan.cost
