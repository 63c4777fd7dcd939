-- The calls of a phase in a region, for each goal.
use Rattle.std.specs.Prelude.{◌≤◌, ℕ, Bool, List, length}
use Rattle.algo_calls.specs.Setups.{Setup}
use Rattle.flash_session.specs.Moves.{Move}
use Rattle.flash_session.specs.Script.{sector_moves, page_at}
use Rattle.flash_session.specs.declared.phase.Phase.{Phase}
use Rattle.flash_session.specs.declared.region_plan.RegionPlan.{RegionPlan}
use Rattle.flash_session.specs.Rest.{from_on, calls_from}
use Rattle.flash_session.specs.Targets.{planned_in, work_in}

-- the calls that erase sectors, from a sector number on
abbrev pub sectors_on : Setup → RegionPlan → List ℕ → ℕ → List Move
sectors_on s p goal = from_on (sector_moves s (planned_in p)) (length p.geometry.sectors)

-- the calls that program or verify pages, from a page number on
abbrev pub pages_on : Bool → Setup → RegionPlan → List ℕ → ℕ → List Move
pages_on v s p goal = from_on (page_at v s (work_in p goal)) (length p.geometry.pages)

abbrev pub calls_on_phase : Phase → Setup → RegionPlan → List ℕ → ℕ → List Move
calls_on_phase phase s p goal = calls_from s (work_in p goal) phase

-- a region has few enough sectors and pages that its calls can be counted
abbrev pub IsSmall : RegionPlan → Type 0
IsSmall p = (length p.geometry.sectors ≤ 65536) × (length p.geometry.pages ≤ 1048576)
