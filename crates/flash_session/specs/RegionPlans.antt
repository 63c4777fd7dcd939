-- The memory for the plan of a region, and the plan that leads to an image laid over its cells.
use Rattle.std.specs.Prelude.{◌≡◌, ◌<◌, ◌≤◌, ◌+◌, ◌^◌, ℕ, Bool, IsTrue, is_some, List, length, take, drop}
use Rattle.board_file.specs.declared.board.Weights.{Weights}
use Rattle.byte_map.specs.Image.{Run, over}
use Rattle.flm_descriptor.specs.Shown.{Shown as AlgorithmShown}
use Rattle.page_geometry.specs.Geometry.{IsGeometry, PagesFit}
use Rattle.erase_planner.specs.Marks.{Covers}
use Rattle.erase_planner.specs.Plans.{IsLeastPlan}
use Rattle.algo_calls.specs.Duties.{device_of}
use Rattle.flash_session.specs.declared.region_plan.RegionPlan.{RegionPlan}

-- a region plan has the sectors and pages of an algorithm's device, and room for a plan of them
pub record IsRegionPlanFor (a : AlgorithmShown) (p : RegionPlan) : Type 0 where
  pub layout : p.geometry ≡ device_of a
  pub lawful : IsGeometry p.geometry
  pub fit : PagesFit a.device.page p.geometry
  pub room : Covers p.geometry p.plan
  pub base : p.base ≡ a.device.base
  pub end : p.base + p.geometry.size ≤ 2 ^ 32
  -- the value of an erased cell is a byte
  pub empty : a.device.empty < 2 ^ 8

-- The plan leads from the region's cells, as they were read, to an image laid over them. Where the bench tells its contents, these are the
-- cells from the region's place on.
pub record IsPlannedOver (tells : Bool) (w : Weights) (image : List Run) (all : List ℕ) (a : AlgorithmShown) (p : RegionPlan) : Type 0 where
  pub cells : List ℕ
  pub long : length cells ≡ a.device.size
  pub told : IsTrue tells → cells ≡ take a.device.size (drop p.start all)
  pub plan : IsLeastPlan p.geometry w (is_some a.entries.erase_chip) a.device.empty cells (over image a.device.base cells) p.plan.made
