-- What the survey of the regions of a job found.
use Rattle.std.specs.Prelude.{◌<◌, ◌+◌, ◌^◌, ℕ, Bool, IsTrue, All, List, [], ◌∷◌, take, drop}
use Rattle.board_file.specs.Shown.{shown as board_of}
use Rattle.flm_descriptor.specs.Shown.{Shown as AlgorithmShown}
use Rattle.job_text.specs.declared.job.Job.{Job}
use Rattle.flash_session.specs.declared.region_plan.RegionPlan.{RegionPlan}
use Rattle.flash_session.specs.Surveys.{IsPlannedFor, planned_of}
use Rattle.flash_session.specs.SurveyFacts.{IsRegionSurvey}

-- a plan that the survey of a region found; the region's cells begin at `start` among all cells
pub record IsFound (tells : Bool) (j : Job) (a : AlgorithmShown) (start : ℕ) (cells goal : List ℕ) (r : RegionPlan) : Type 0 where
  pub plan : IsPlannedFor tells (board_of j.board) a (take a.device.size (drop start cells)) (take a.device.size (drop start goal)) (planned_of r)
  pub work : IsRegionSurvey a start r
  pub bytes : IsTrue tells → All (λ v. v < 2 ^ 8) (take a.device.size (drop start cells))
  pub wanted : IsTrue tells → All (λ v. v < 2 ^ 8) (take a.device.size (drop start goal))

-- the plans of all regions in order; the first region has its cells at place `start`
abbrev pub AreFound : Bool → Job → ℕ → List AlgorithmShown → (cells goal : List ℕ) → List RegionPlan → Type 0
AreFound tells j start [] cells goal [] = Unit {0}
AreFound tells j start (a ∷ rest) cells goal (r ∷ more) = IsFound tells j a start cells goal r × AreFound tells j (start + a.device.size) rest cells goal more
AreFound tells j start _ cells goal _ = ⊥
