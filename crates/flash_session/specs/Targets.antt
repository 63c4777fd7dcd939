-- What a target of a session shows.
use Rattle.std.specs.Prelude.{ℕ, Bool, true, false, is_some, unwrap_or, Option, Some, None, List, [], ◌∷◌}
use Rattle.flash_layout.specs.Maps.{FlashMap}
use Rattle.target_core.specs.Units.{unit_map}
use Rattle.target_core.specs.Path.{Point}
use Rattle.algo_calls.specs.declared.calls_in.CallsIn.{CallsIn}
use Rattle.algo_calls.specs.Duties.{Site, part}
use Rattle.algo_calls.specs.Setups.{Setup}
use Rattle.algo_calls.specs.Shows.{setup_at, point_at}
use Rattle.flash_layout.specs.Areas.{cells_in}
use Rattle.job_text.specs.declared.job.Job.{Job}
use Rattle.flash_session.specs.Goals.{goal_in}
use Rattle.flash_session.specs.Script.{Planned, planned, RegionWork, region_work, Leg, leg}
use Rattle.flash_session.specs.declared.region_plan.RegionPlan.{RegionPlan}
use Rattle.flash_session.specs.declared.region_plan.SessionWork.{SessionWork}
use Rattle.flash_session.specs.declared.player.Player.{Player}
use Rattle.flash_session.specs.Regions.{RegionIndex, First, Second}
use Rattle.flash_session.specs.Rest.{Legs}

-- ---- the calls of a target

-- the calls of region `r`, given the calls of the region that moved last and those of the other
abbrev pub of_region : (r moved : RegionIndex) → CallsIn → Option CallsIn → CallsIn
of_region First First here other = here
of_region Second Second here other = here
of_region First Second here None = here
of_region First Second here (Some other) = other
of_region Second First here None = here
of_region Second First here (Some other) = other

-- the setups of the calls of each region, in order
abbrev pub one_or_both : Bool → Setup → Setup → List Setup
one_or_both false first second = first ∷ []
one_or_both true first second = first ∷ second ∷ []

abbrev pub calls_on : Player → RegionIndex → CallsIn
calls_on t r = of_region r t.moved t.calls t.other

abbrev pub setup_on : Player → RegionIndex → Setup
setup_on t r = setup_at (calls_on t r)

abbrev pub map_of : CallsIn → FlashMap
map_of c = unit_map c.machine.unit

abbrev pub map_on : Player → RegionIndex → FlashMap
map_on t r = map_of (calls_on t r)

-- the setup of the calls of the region that moved last
abbrev pub setup_now : Player → Setup
setup_now t = setup_at t.calls

-- the point of a player's machine, with its window of the arena and over these cells
abbrev pub point_for : Player → List (List ℕ) → List ℕ → Point
point_for t arena cells = point_at t.calls arena t.window cells

-- ---- the script of a target

-- the plan of the first region, or of the second where there is one
abbrev pub region_in : SessionWork → RegionIndex → RegionPlan
region_in t First = t.first
region_in t Second = unwrap_or t.second t.first

abbrev pub planned_in : RegionPlan → Planned
planned_in p = planned p.geometry p.base p.plan.made

-- the site of a region's cells
abbrev pub site_in : RegionPlan → Site
site_in p = record { start = p.start; layout = p.geometry }

-- the work on a region, with its part of the goal of all cells
abbrev pub work_in : RegionPlan → List ℕ → RegionWork
work_in p goal = region_work p.geometry p.base p.plan.made (part (site_in p) goal)

abbrev pub later_leg : Setup → Option RegionPlan → List ℕ → Option Leg
later_leg s None goal = None
later_leg s (Some p) goal = Some (leg s (work_in p goal))

-- what is to be done in each region, with this goal of all cells
abbrev pub legs_for : Player → List ℕ → Legs
legs_for t goal = record { first = leg (setup_on t First) (work_in t.work.first goal); second = later_leg (setup_on t Second) t.work.second goal }

abbrev pub has_second : Player → Bool
has_second t = is_some t.work.second

-- how many cells the board of a player has
abbrev pub size_for : Player → ℕ
size_for t = cells_in (map_on t First).areas

-- the goal of a player's job, from this file
abbrev pub goal_for : Job → Player → List ℕ → List ℕ
goal_for j t file = goal_in j t.work.goal file
