-- What holds of a target on every bench, and how far a target is from its end.
use Rattle.std.specs.Prelude.{◌≡◌, ◌≢◌, ◌<◌, ◌≤◌, ◌+◌, ◌-◌, ◌^◌, ℕ, Bool, IsTrue, is_some, List, [], ◌∷◌, length, None}
use Rattle.bench_model.specs.State.{BenchState}
use Rattle.algo_calls.specs.Setups.{Setup}
use Rattle.algo_calls.specs.Frames.{fuel_of}
use Rattle.algo_calls.specs.Shows.{Fits, AgreesAt}
use Rattle.flash_session.specs.Moves.{Move, Reset, Load, Make, calls_in}
use Rattle.flash_session.specs.Plays.{IsNotDone}
use Rattle.flash_session.specs.Regions.{RegionIndex, First, Second, IsThere}
use Rattle.flash_session.specs.Script.{IsRegionWork}
use Rattle.target_core.specs.Units.{unit_cells}
use Rattle.flash_session.specs.declared.cursor.Place.{Place}
use Rattle.flash_session.specs.declared.cursor.Place.TheVariants as place
use Rattle.flash_session.specs.declared.target_end.TargetEnd.{TargetEnd}
use Rattle.flash_session.specs.declared.target_end.TargetEnd.TheVariants as ended
use Rattle.flash_session.specs.declared.region_plan.RegionPlan.{RegionPlan}
use Rattle.flash_session.specs.declared.player.Player.{Player}
use Rattle.flash_session.specs.Rest.{Legs, rest_of, unbroken}
use Rattle.flash_session.specs.Steps.{IsCursor}
use Rattle.flash_session.specs.Targets.{setup_on, map_on, legs_for, region_in, planned_in, has_second, size_for}

-- the number of calls that a target may still make
abbrev pub calls_ahead : Legs → Place → ℕ
calls_ahead l (place.At c) = calls_in (rest_of l c unbroken)
calls_ahead l (place.In call len left next) = calls_in (rest_of l next unbroken) + 1
calls_ahead l (place.Comparing at) = 0
calls_ahead l place.Closing = 0
calls_ahead l (place.Ended e) = 0

-- the most turns that moves take: one for a reset or a load; for a call one, one for each of its steps, and one for its end
abbrev pub turns_in : List Move → ℕ
turns_in [] = 0
turns_in (Reset s torn ∷ rest) = turns_in rest + 1
turns_in (Load s ∷ rest) = turns_in rest + 1
turns_in (Make s call bytes ∷ rest) = turns_in rest + (fuel_of s call + 2)

-- the most turns that a target still takes, on a device of this many cells
abbrev pub turns_ahead : Legs → ℕ → Place → ℕ
turns_ahead l size (place.At c) = turns_in (rest_of l c unbroken) + (size + 2)
turns_ahead l size (place.In call len left next) = (left + 1) + (turns_in (rest_of l next unbroken) + (size + 2))
turns_ahead l size (place.Comparing at) = (size - at) + 2
turns_ahead l size place.Closing = 1
turns_ahead l size (place.Ended e) = 0

-- what is to be done in each region, with an empty goal; the number of calls and turns doesn't depend on the goal's bytes
abbrev pub legs_of : Player → Legs
legs_of t = legs_for t []

abbrev pub togo : Player → ℕ
togo t = turns_ahead (legs_of t) (size_for t) t.place

-- An end that a target with a script may come to, on every bench. A call that failed has a number; it wasn't done, and no device fault
-- broke it off. The two bytes of a mismatch differ.
abbrev pub IsScriptEnd : TargetEnd → Type 0
IsScriptEnd ended.Done = Unit {0}
IsScriptEnd (ended.Open fault) = ⊥
IsScriptEnd (ended.Survey fault) = ⊥
IsScriptEnd (ended.CallFailed number call e) = IsNotDone number e
IsScriptEnd (ended.Mismatch d) = d.want ≢ d.got
IsScriptEnd ended.StoreFault = Unit {0}
IsScriptEnd ended.DeviceFault = Unit {0}

-- What each end of a target says, on every bench. A call that failed has a number; it wasn't done, and no device fault broke it off. A
-- difference lies in the device, and its two bytes are unequal. No operation is open after a comparison.
abbrev pub IsSoundEnd : Bool → ℕ → TargetEnd → BenchState → Type 0
IsSoundEnd tells size ended.Done b = Unit {0}
IsSoundEnd tells size (ended.Open fault) b = ⊥
IsSoundEnd tells size (ended.Survey fault) b = ⊥
IsSoundEnd tells size (ended.CallFailed number call e) b = IsNotDone number e
IsSoundEnd tells size (ended.Mismatch d) b = (d.at < size) × (d.want ≢ d.got) × (IsTrue tells → b.operation ≡ None)
IsSoundEnd tells size ended.StoreFault b = Unit {0}
IsSoundEnd tells size ended.DeviceFault b = Unit {0}

-- a target may be at this place: a comparison has cells left, and no operation is open during a comparison or at the close
abbrev pub IsPlace : Bool → (has : Bool) → (moved : RegionIndex) → Place → ℕ → BenchState → Type 0
IsPlace tells has moved (place.At c) size b = IsCursor has moved c
IsPlace tells has moved (place.In call len left next) size b = IsCursor has moved next
IsPlace tells has moved (place.Comparing at) size b = (at < size) × (IsTrue tells → b.operation ≡ None)
IsPlace tells has moved place.Closing size b = IsTrue tells → b.operation ≡ None
IsPlace tells has moved (place.Ended e) size b = IsSoundEnd tells size e b

-- the plan of a region fits the setup of its calls, the region's cells are cells of the board, and the buffer has room for a page
pub record IsRegionPlanOn (s : Setup) (size page : ℕ) (p : RegionPlan) : Type 0 where
  pub region_work : IsRegionWork s (planned_in p)
  pub range : p.start + p.geometry.size ≤ size
  pub buffer : s.algorithm.device.page ≤ page

-- The calls of both regions have one board, and a RAM of the same place and size. There are calls for a second region exactly if there is a
-- plan for one.
pub record AreTwins (t : Player) : Type 0 where
  pub base : (setup_on t Second).layout.return_at ≡ (setup_on t First).layout.return_at
  pub size : (setup_on t Second).ram_size ≡ (setup_on t First).ram_size
  pub map : map_on t Second ≡ map_on t First
  pub there : is_some t.other ≡ has_second t
  pub moved : IsThere (has_second t) t.moved

-- the script of a player fits its calls and its buffer
pub record IsScripted (t : Player) : Type 0 where
  pub first : IsRegionPlanOn (setup_on t First) (size_for t) (length t.page.items) (region_in t.work First)
  pub second : IsTrue (has_second t) → IsRegionPlanOn (setup_on t Second) (size_for t) (length t.page.items) (region_in t.work Second)
  pub twins : AreTwins t

-- a target fits its window and its bench
pub record Fit (tells : Bool) (t : Player) (arena : List (List ℕ)) (b : BenchState) : Type 0 where
  pub scripted : IsScripted t
  pub fits : Fits t.calls arena t.window
  pub agrees : AgreesAt tells t.calls b
  pub wanted : unit_cells t.calls.machine.unit ≡ size_for t
  pub some : 0 < size_for t
  pub place : IsPlace tells (has_second t) t.moved t.place (size_for t) b
  pub room : t.made + calls_ahead (legs_of t) t.place < 2 ^ 32
