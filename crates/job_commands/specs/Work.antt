-- The work on a job: its plans, its script, and the ways in which the script ends.
use Rattle.std.specs.Prelude.{◌≡◌, ◌+◌, ℕ, List, [], ◌∷◌, map, Some, is_some}
use Rattle.bench_model.specs.State.{BenchState}
use Rattle.board_file.specs.Shown as board
use Rattle.flm_descriptor.specs.Shown as flm
use Rattle.erase_planner.specs.Plans.{chosen}
use Rattle.readback.specs.declared.compare.Difference.{Difference}
use Rattle.algo_calls.specs.declared.call.Call.{Call}
use Rattle.algo_calls.specs.declared.call.CallEnd.{CallEnd}
use Rattle.algo_calls.specs.Duties.{AllServe, device_of, part, site_of}
use Rattle.job_text.specs.Body.{Job, body_of}
use Rattle.report_text.specs.Plan.{plan_text}
use Rattle.report_text.specs.Region.{plans_text}
use Rattle.job_text.specs.Laid.{address_at}
use Rattle.flash_session.specs.Differs.{DiffersFirst}
use Rattle.flash_session.specs.Local.{IsInPlans, SameBut}
use Rattle.flash_session.specs.Moves.{Move, Stand, stand_at, IsLeftOnWay}
use Rattle.flash_session.specs.Outcome.{GoTo, FailAt}
use Rattle.flash_session.specs.Plays.{BreaksOff}
use Rattle.flash_session.specs.Script.{Planned, planned, Leg, Broken, script}
use Rattle.flash_session.specs.Sessions.{legs_for}
use Rattle.flash_session.specs.Starts.{start_of}

-- A job, the board and the algorithms that its texts describe, the cells as the survey found them, and the cells that it must leave.
pub record Work : Type 0 where
  pub job : Job
  pub board : board.Shown
  pub algorithms : List flm.Shown
  pub surveyed : List ℕ
  pub goal : List ℕ

abbrev pub work_on : Job → board.Shown → List flm.Shown → List ℕ → List ℕ → Work
work_on job b algorithms surveyed goal = record { job = job; board = b; algorithms = algorithms; surveyed = surveyed; goal = goal }

abbrev pub body : Work → List ℕ
body w = body_of w.job

-- The plans of a job.

-- the plan that is chosen for a region of a board, from its part of `cells` to its part of `goal`
abbrev pub plan_in : board.Shown → ℕ → flm.Shown → (cells goal : List ℕ) → Planned
plan_in b region a cells goal = planned (device_of a) a.device.base
    (chosen (device_of a) b.weights (is_some a.entries.erase_chip) a.device.empty (part (site_of b a region) cells) (part (site_of b a region) goal))

-- the plans that are chosen for the regions from number `region` on, with an algorithm for each
abbrev pub plans_in : board.Shown → ℕ → List flm.Shown → (cells goal : List ℕ) → List Planned
plans_in b region [] cells goal = []
plans_in b region (a ∷ rest) cells goal = plan_in b region a cells goal ∷ plans_in b (region + 1) rest cells goal

-- the plans from the cells as surveyed to the goal
abbrev pub plans_of : Work → List Planned
plans_of w = plans_in w.board 0 w.algorithms w.surveyed w.goal

-- the first address of a region, with the text of its plan
abbrev pub shown_region : Planned → ℕ × List ℕ
shown_region p = (p.base, plan_text p.layout p.base p.plan)

-- the text of plans: that of a single plan alone, or for each plan the line of its region and its text
abbrev pub plans_shown : List Planned → List ℕ
plans_shown plans = plans_text (map shown_region plans)

abbrev pub shown_plan : Work → List ℕ
shown_plan w = plans_shown (plans_of w)

-- The script of the plans, from the cells as surveyed, with the bytes that broken-off operations leave.

abbrev pub legs_of : Work → List Leg
legs_of w = legs_for w.board 0 w.algorithms w.goal (plans_of w)

abbrev pub start_for : Work → Stand
start_for w = stand_at 0 (start_of w.board w.surveyed)

abbrev pub moves_of : Work → Broken → List Move
moves_of w broken = script (legs_of w) broken

-- the script goes to its end, and leaves these cells
abbrev pub Ends : Work → Broken → List ℕ → Type 0
Ends w broken cells = GoTo (start_for w) (moves_of w broken) cells

-- this call is the first in the script that isn't done, and leaves these cells
abbrev pub Fails : Work → Broken → ℕ → Call → CallEnd → List ℕ → Type 0
Fails w broken number call end cells = FailAt (start_for w) (moves_of w broken) number call end cells

-- the script goes to its end, and the cell at this address is the first that isn't as wanted
pub record Misses (w : Work) (broken : Broken) (at wanted found : ℕ) (cells : List ℕ) : Type 0 where
  pub ends : Ends w broken cells
  pub difference : Difference
  pub first : DiffersFirst w.goal cells difference
  pub at_is : address_at w.board.regions difference.at ≡ Some at
  pub wanted_is : wanted ≡ difference.want
  pub found_is : found ≡ difference.got

-- a fault of the device breaks the script off at a point of its path
abbrev pub Breaks : Work → Broken → BenchState → Type 0
Breaks w broken now = BreaksOff (start_for w) (moves_of w broken) now

-- a stop at a point of the script's path leaves these cells
abbrev pub IsOnPath : Work → Broken → List ℕ → Type 0
IsOnPath w broken cells = IsLeftOnWay (start_for w) (moves_of w broken) cells

-- Algorithms that keep their duties.

-- each region of the board has an algorithm that keeps its duties for it
abbrev pub KeepsDuties : Work → Type 0
KeepsDuties w = AllServe w.board w.algorithms

-- the cells are as surveyed, except in sectors and pages of the plan of their own region
abbrev pub IsOutsidePlanAsSurveyed : Work → List ℕ → Type 0
IsOutsidePlanAsSurveyed w cells = SameBut (IsInPlans 0 (plans_of w)) w.surveyed cells
