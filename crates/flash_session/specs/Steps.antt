-- The next move of a script, by what is left of it.
use Rattle.std.specs.Prelude.{◌≡◌, ◌<◌, ◌≤◌, ◌+◌, ◌^◌, ℕ, Bool, true, false, List, [], ◌∷◌, length, take, drop, Option, Some, None}
use Rattle.algo_calls.specs.declared.call.Call.{Call}
use Rattle.algo_calls.specs.Setups.{Setup}
use Rattle.algo_calls.specs.Shows.{MayAsk}
use Rattle.flash_session.specs.Moves.{Move, Reset, Load, Make}
use Rattle.flash_session.specs.Regions.{RegionIndex, First, IsThere}
use Rattle.flash_session.specs.Script.{Broken}
use Rattle.flash_session.specs.declared.phase.Phase.{Phase}
use Rattle.flash_session.specs.declared.cursor.Cursor.{Cursor}
use Rattle.flash_session.specs.declared.cursor.Cursor.TheVariants as at
use Rattle.flash_session.specs.declared.cursor.Item.{Item}
use Rattle.flash_session.specs.declared.cursor.Step.{Step}
use Rattle.flash_session.specs.declared.cursor.Step.TheVariants as step
use Rattle.flash_session.specs.declared.region_plan.RegionPlan.{RegionPlan}
use Rattle.flash_session.specs.declared.player.Player.{Player}
use Rattle.flash_session.specs.Rest.{phase_calls, leg_at, later_than, rest_of, with_torn, with_last}
use Rattle.flash_session.specs.Targets.{setup_now, setup_on, legs_for, size_for, has_second, work_in}

-- the goal's bytes for a call
abbrev pub bytes_at : List ℕ → ℕ → ℕ → List ℕ
bytes_at goal from len = take len (drop from goal)

-- ---- in a region

-- for each goal, the next of some calls is this item's call with its bytes of the region's goal
pub record IsNext (s : Setup) (p : RegionPlan) (calls : List ℕ → ℕ → List Move) (index : ℕ) (item : Item) : Type 0 where
  pub moves : (goal : List ℕ) → calls goal index ≡ Make s item.call (bytes_at (work_in p goal).goal item.from item.len) ∷ calls goal (item.index + 1)
  pub within : item.from + item.len ≤ p.geometry.size
  pub fits : item.len ≤ s.algorithm.device.page
  pub may : (bytes : List ℕ) → length bytes ≡ item.len → MayAsk s item.call bytes
  pub room : item.index + 1 < 2 ^ 32

-- the first call from a number on, or none where no call is left
abbrev pub IsItem : Setup → RegionPlan → (List ℕ → ℕ → List Move) → ℕ → Option Item → Type 0
IsItem s p calls index None = (goal : List ℕ) → calls goal index ≡ []
IsItem s p calls index (Some item) = IsNext s p calls index item

-- whether a phase of a region has calls
abbrev pub has_phase : Player → RegionIndex → Phase → Bool → Type 0
has_phase t r p true = (goal : List ℕ) → phase_calls (leg_at (legs_for t goal) r).setup (leg_at (legs_for t goal) r).region_work p ≡ [] → ⊥
has_phase t r p false = (goal : List ℕ) → phase_calls (leg_at (legs_for t goal) r).setup (leg_at (legs_for t goal) r).region_work p ≡ []

-- ---- over all regions

-- a call with `len` bytes may be made, and the buffer has room for them
pub record IsAsked (t : Player) (call : Call) (from len : ℕ) : Type 0 where
  pub within : from + len ≤ size_for t
  pub fits : len ≤ length t.page.items
  pub may : (bytes : List ℕ) → length bytes ≡ len → MayAsk (setup_now t) call bytes

-- a target may be at this cursor; `moved` is the region that moved last
abbrev pub IsCursor : (has : Bool) → (moved : RegionIndex) → Cursor → Type 0
IsCursor has moved (at.Begin r p) = IsThere has r
IsCursor has moved (at.Init r p) = (moved ≡ r) × IsThere has r
IsCursor has moved (at.Calls r p k) = (moved ≡ r) × IsThere has r
IsCursor has moved at.Last = Unit {0}

-- the first of the moves that are left, for each goal and whatever cells the resets still to come leave
abbrev pub IsStepOf : Player → (rest : List ℕ → Broken → List Move) → Step → Type 0
IsStepOf t rest (step.Begin r p) =
    ((goal : List ℕ) (b : Broken) (torn : List ℕ) → rest goal (with_torn r p torn b) ≡ Reset (setup_on t r) torn ∷ Load (setup_on t r)
    ∷ rest_of (legs_for t goal) (at.Init r p) b)
    × IsThere (has_second t) r
IsStepOf t rest (step.Call call from len next) =
    ((goal : List ℕ) (b : Broken) → rest goal b ≡ Make (setup_now t) call (bytes_at goal from len) ∷ rest_of (legs_for t goal) next b)
    × IsAsked t call from len × IsCursor (has_second t) t.moved next
IsStepOf t rest step.Last = (goal : List ℕ) (b : Broken) (torn : List ℕ) → rest goal (with_last torn b) ≡ Reset (setup_on t First) torn ∷ []

-- the next step of the script at a cursor
abbrev pub IsStep : Player → Cursor → Step → Type 0
IsStep t cursor x = IsStepOf t (λ goal. rest_of (legs_for t goal) cursor) x

-- the step that comes after a region
abbrev pub IsStepBehind : Player → RegionIndex → Step → Type 0
IsStepBehind t r x = IsStepOf t (λ goal. later_than (legs_for t goal) r) x

-- the first phase of a region, from one on, that has calls; none where no phase has
abbrev pub IsPhaseFrom : Player → RegionIndex → Phase → Option Phase → Type 0
IsPhaseFrom t r p None = (goal : List ℕ) (b : Broken) → rest_of (legs_for t goal) (at.Begin r p) b ≡ later_than (legs_for t goal) r b
IsPhaseFrom t r p (Some q) = ((goal : List ℕ) (b : Broken) → rest_of (legs_for t goal) (at.Begin r p) b ≡ rest_of (legs_for t goal) (at.Begin r q) b)
    × has_phase t r q true
