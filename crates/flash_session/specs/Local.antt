-- Which cells the plans of a session concern, and that all others stay.
use Rattle.std.specs.Prelude.{◌≡◌, ◌<◌, ◌+◌, ◌⊎◌, ◌∷◌, [], ℕ, true, false, List, length, get_or, slice_index}
use Rattle.bench_model.specs.Calls.{CellsStay}
use Rattle.bench_model.specs.History.{Leaves}
use Rattle.bench_model.specs.State.{BenchState, cells_half}
use Rattle.flm_descriptor.specs.Shape.{range_at}
use Rattle.page_geometry.specs.Geometry.{In, Geometry}
use Rattle.erase_planner.specs.Plans.{Chosen}
use Rattle.flash_session.specs.Script.{Planned}

-- place `i` of a region lies in a sector or a page of the plan; a plan that erases the chip contains every place
abbrev pub IsInPlan : Geometry → Chosen → ℕ → Type 0
IsInPlan l plan i = (plan.chip ≡ true)
    ⊎ (((k : ℕ) × (get_or plan.sectors k false ≡ true) × In i (range_at l.sectors k))
    ⊎ ((k : ℕ) × (get_or plan.pages k false ≡ true) × In i (range_at l.pages k)))

-- place `i` of all cells lies in the plan of a region whose cells begin at `start`
pub record IsInRegionPlan (start : ℕ) (l : Geometry) (plan : Chosen) (i : ℕ) : Type 0 where
  pub at : ℕ
  pub is : i ≡ start + at
  pub inside : at < l.size
  pub planned : IsInPlan l plan at

-- place `i` of all cells lies in the plan of its region; the regions follow one another from `start` on
abbrev pub IsInPlans : ℕ → List Planned → ℕ → Type 0
IsInPlans start [] i = ⊥
IsInPlans start (p ∷ rest) i = IsInRegionPlan start p.layout p.plan i ⊎ IsInPlans (start + p.layout.size) rest i

-- each cell except those at places in P is as it was
pub record SameBut (P : ℕ → Type 0) (old new : List ℕ) : Type 0 where
  pub long : length new ≡ length old
  pub same : (i : ℕ) → ¬ P i → slice_index new i ≡ slice_index old i

-- What a session does after a survey, from one bench to the next. Either a script changes only cells at places in P, or an action such as
-- the close leaves the cells as they are.
abbrev pub IsLocalStep : (P : ℕ → Type 0) (old new : BenchState) → Type 0
IsLocalStep P old new = Leaves (cells_half old) (cells_half new) (SameBut P old.cells) ⊎ CellsStay old new

-- a list of benches where each step from one to the next is local to the places in P
abbrev pub AreLocalSteps : {B : Type 0} (state : B → BenchState) (P : ℕ → Type 0) → B → List B → Type 0
AreLocalSteps state P old [] = Unit {0}
AreLocalSteps state P old (new ∷ later) = IsLocalStep P (state old) (state new) × AreLocalSteps state P new later

-- the last bench of a list, or the first bench where the list is empty
abbrev pub last_bench : {B : Type 0} → B → List B → B
last_bench old [] = old
last_bench old (new ∷ later) = last_bench new later
