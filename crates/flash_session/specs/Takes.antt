-- The one thing that a turn does, by the place of the target before and after it.
use Rattle.std.specs.Prelude.{◌≡◌, ◌≤◌, ◌<◌, ◌+◌, ℕ, Bool, IsTrue, List, length}
use Rattle.bench_model.specs.Does.{StaysOpen}
use Rattle.bench_model.specs.State.{BenchState}
use Rattle.target_core.specs.declared.run.SliceEnd.{SliceEnd}
use Rattle.target_core.specs.declared.run.SliceEnd.TheVariants as slice
use Rattle.target_core.specs.Targets.{SliceFrom}
use Rattle.algo_calls.specs.declared.call.Call.{Call}
use Rattle.algo_calls.specs.Ends.{call_end_of, success_of}
use Rattle.algo_calls.specs.Frames.{asked, fuel_of, first_point}
use Rattle.flash_session.specs.declared.cursor.Cursor.{Cursor}
use Rattle.flash_session.specs.declared.cursor.Cursor.TheVariants as at
use Rattle.flash_session.specs.declared.cursor.Place.{Place}
use Rattle.flash_session.specs.declared.cursor.Place.TheVariants as place
use Rattle.flash_session.specs.declared.cursor.Step.{Step}
use Rattle.flash_session.specs.declared.cursor.Step.TheVariants as step
use Rattle.flash_session.specs.declared.player.Player.{Player}
use Rattle.flash_session.specs.declared.target_end.TargetEnd.{TargetEnd}
use Rattle.flash_session.specs.declared.target_end.TargetEnd.TheVariants as ended
use Rattle.flash_session.specs.Steps.{bytes_at, IsStep}
use Rattle.flash_session.specs.Targets.{setup_now, point_for}
use Rattle.flash_session.specs.Turns.{judged, made_by}

-- a step that is no call: a phase begins, or the last reset is made
abbrev pub IsNoCall : Step → Type 0
IsNoCall (step.Begin r p) = Unit {0}
IsNoCall (step.Call call from len next) = ⊥
IsNoCall step.Last = Unit {0}

abbrev pub IsCall : Step → Type 0
IsCall (step.Begin r p) = ⊥
IsCall (step.Call call from len next) = Unit {0}
IsCall step.Last = ⊥

abbrev pub IsLast : Step → Type 0
IsLast (step.Begin r p) = ⊥
IsLast (step.Call call from len next) = ⊥
IsLast step.Last = Unit {0}

-- the steps that may come at a cursor: before a phase no call, at its Init and among its calls only calls
abbrev pub IsKind : Cursor → Step → Type 0
IsKind (at.Begin r p) x = IsNoCall x
IsKind (at.Init r p) x = IsCall x
IsKind (at.Calls r p k) x = IsCall x
IsKind at.Last x = IsLast x

-- a cursor before the Init of a phase, after reset and load
abbrev pub IsLoaded : Cursor → Type 0
IsLoaded (at.Begin r p) = ⊥
IsLoaded (at.Init r p) = Unit {0}
IsLoaded (at.Calls r p k) = ⊥
IsLoaded at.Last = ⊥

-- a reset with its load or the last reset was made, or a device fault ended the target
abbrev pub IsReset : Place → Type 0
IsReset (place.At c) = IsLoaded c
IsReset (place.In call len left next) = ⊥
IsReset (place.Comparing at) = at ≡ 0
IsReset place.Closing = ⊥
IsReset (place.Ended e) = e ≡ ended.DeviceFault

-- a call was prepared, or a fault of the job file ended the target
abbrev pub IsPreparing : Place → Type 0
IsPreparing (place.At c) = ⊥
IsPreparing (place.In call len left next) = Unit {0}
IsPreparing (place.Comparing at) = ⊥
IsPreparing place.Closing = ⊥
IsPreparing (place.Ended e) = e ≡ ended.StoreFault

-- the last reset was made, or a device fault ended the target
abbrev pub IsLastReset : Place → Type 0
IsLastReset (place.At c) = ⊥
IsLastReset (place.In call len left next) = ⊥
IsLastReset (place.Comparing at) = at ≡ 0
IsLastReset place.Closing = ⊥
IsLastReset (place.Ended e) = e ≡ ended.DeviceFault

abbrev pub FromCursor : Cursor → Place → Type 0
FromCursor (at.Begin r p) new = IsReset new
FromCursor (at.Init r p) new = IsPreparing new
FromCursor (at.Calls r p k) new = IsPreparing new
FromCursor at.Last new = IsLastReset new

-- after the next steps of a call, a target is still in the call or, where the call's run ended, at the cursor after it
abbrev pub FromCall : (steps : ℕ) → Call → (len left : ℕ) → Cursor → Place → Type 0
FromCall steps call len left next (place.At c) = c ≡ next
FromCall steps call len left next (place.In call' len' left' next') = (call' ≡ call) × (len' ≡ len) × (left' + steps ≡ left) × (next' ≡ next)
FromCall steps call len left next (place.Comparing at) = ⊥
FromCall steps call len left next place.Closing = ⊥
FromCall steps call len left next (place.Ended e) = Unit {0}

-- the comparison of cells from `at` on found a difference, or a fault broke it off
abbrev pub IsEndAmong : ℕ → TargetEnd → Type 0
IsEndAmong at ended.Done = ⊥
IsEndAmong at (ended.Open fault) = ⊥
IsEndAmong at (ended.Survey fault) = ⊥
IsEndAmong at (ended.CallFailed number call e) = ⊥
IsEndAmong at (ended.Mismatch d) = (at ≤ d.at) × (d.at < at + 4096)
IsEndAmong at ended.StoreFault = Unit {0}
IsEndAmong at ended.DeviceFault = Unit {0}

-- the comparison of the next 4,096 cells, of `size` in all
abbrev pub FromCells : (size at : ℕ) → Place → Type 0
FromCells size at (place.At c) = ⊥
FromCells size at (place.In call len left next) = ⊥
FromCells size at (place.Comparing upto) = upto ≡ at + 4096
FromCells size at place.Closing = size ≤ at + 4096
FromCells size at (place.Ended e) = IsEndAmong at e

-- the close ended the target: the job was closed, or a fault of the job file came
abbrev pub IsEndAtClose : TargetEnd → Type 0
IsEndAtClose ended.Done = Unit {0}
IsEndAtClose (ended.Open fault) = ⊥
IsEndAtClose (ended.Survey fault) = ⊥
IsEndAtClose (ended.CallFailed number call e) = ⊥
IsEndAtClose (ended.Mismatch d) = ⊥
IsEndAtClose ended.StoreFault = Unit {0}
IsEndAtClose ended.DeviceFault = ⊥

abbrev pub IsOver : Place → Type 0
IsOver (place.At c) = ⊥
IsOver (place.In call len left next) = ⊥
IsOver (place.Comparing at) = ⊥
IsOver place.Closing = ⊥
IsOver (place.Ended e) = IsEndAtClose e

-- the place of a target after a turn of at most `steps` steps, on a device of `size` cells
abbrev pub TakesOn : (steps size : ℕ) → Place → Place → Type 0
TakesOn steps size (place.At c) new = FromCursor c new
TakesOn steps size (place.In call len left next) new = FromCall steps call len left next new
TakesOn steps size (place.Comparing at) new = FromCells size at new
TakesOn steps size place.Closing new = IsOver new
TakesOn steps size (place.Ended e) new = ⊥

-- ---- in a call

-- the place of a target after a slice with this end, and the number of calls it has made
abbrev pub IsBehind : (made : ℕ) → Call → (len left : ℕ) → Cursor → SliceEnd → Player → Type 0
IsBehind made call len left next slice.More new = (new.place ≡ place.In call len left next) × (new.made ≡ made)
IsBehind made call len left next (slice.Ended e) new = (new.place ≡ judged made call next (call_end_of (success_of call len) e))
    × (new.made ≡ made_by made (call_end_of (success_of call len) e))

-- The target ran `steps` steps of its call, or fewer if the call's run ended first; then the call was judged.
pub record Slice (tells : Bool) (steps : ℕ) (call : Call) (len left : ℕ) (next : Cursor) (old : Player) (arena : List (List ℕ)) (start : BenchState)
    (new : Player) (arena' : List (List ℕ)) (end : BenchState) : Type 0 where
  pub rest : ℕ
  pub cut : SliceEnd
  pub falls : rest ≤ left
  pub few : left ≤ rest + steps
  pub run : IsTrue tells → SliceFrom old.calls.machine.return_at (point_for old arena start.cells) start left rest steps cut
      (point_for new arena' end.cells) end
  pub behind : IsBehind old.made call len rest next cut new

-- ---- in any other turn

-- the script comes to a phase next, and the target is then before the Init of that phase, after reset and load
abbrev pub BeginsPhase : Player → Cursor → Cursor → Type 0
BeginsPhase old c (at.Begin r p) = ⊥
BeginsPhase old c (at.Init r p) = IsStep old c (step.Begin r p)
BeginsPhase old c (at.Calls r p k) = ⊥
BeginsPhase old c at.Last = ⊥

-- The script comes to this call next. The call is at its first point, with all its fuel. Where the bench tells its contents, the call has
-- the goal's bytes.
pub record IsFresh (tells : Bool) (goal : List ℕ) (old : Player) (arena : List (List ℕ)) (c : Cursor) (new : Player) (arena' : List (List ℕ))
    (call : Call) (len left : ℕ) (next : Cursor) : Type 0 where
  pub from : ℕ
  pub comes : IsStep old c (step.Call call from len next)
  pub fuel : left ≡ fuel_of (setup_now old) call
  pub bytes : List ℕ
  pub long : length bytes ≡ len
  pub are : IsTrue tells → bytes ≡ bytes_at goal from len
  pub first : (cells : List ℕ) → point_for new arena' cells ≡ first_point (setup_now old) (point_for old arena cells).world (asked call bytes)

-- a turn leaves the machine, the cells and the open operation as they were
pub record IsUntouched (tells : Bool) (old : Player) (arena : List (List ℕ)) (start : BenchState) (new : Player) (arena' : List (List ℕ))
    (end : BenchState) : Type 0 where
  pub calls : new.calls ≡ old.calls
  pub ram : arena' ≡ arena
  pub stays : IsTrue tells → StaysOpen start end

-- The next move of the script, by the place to which it leads. A fault leaves everything as it was.
abbrev pub IsNextMove : Bool → (goal : List ℕ) → Player → List (List ℕ) → BenchState → Cursor → Player → List (List ℕ) → BenchState → Place → Type 0
IsNextMove tells goal old arena start c new arena' end (place.At c') = BeginsPhase old c c'
IsNextMove tells goal old arena start c new arena' end (place.In call len left next) = IsFresh tells goal old arena c new arena' call len left next
    × (IsTrue tells → StaysOpen start end)
IsNextMove tells goal old arena start c new arena' end (place.Comparing at) = IsStep old c step.Last
IsNextMove tells goal old arena start c new arena' end place.Closing = ⊥
IsNextMove tells goal old arena start c new arena' end (place.Ended e) = IsUntouched tells old arena start new arena' end

-- A turn between two moves makes the next move of the script, and no step of a call.
pub record IsHost (tells : Bool) (goal : List ℕ) (old : Player) (arena : List (List ℕ)) (start : BenchState) (c : Cursor) (new : Player)
    (arena' : List (List ℕ)) (end : BenchState) : Type 0 where
  pub made : new.made ≡ old.made
  pub next : IsNextMove tells goal old arena start c new arena' end new.place

-- a turn that compares cells or closes the job
pub record IsStill (tells : Bool) (old : Player) (arena : List (List ℕ)) (start : BenchState) (new : Player) (arena' : List (List ℕ))
    (end : BenchState) : Type 0 where
  pub made : new.made ≡ old.made
  pub untouched : IsUntouched tells old arena start new arena' end

-- a turn of a target with this goal, by the place from which it starts
abbrev pub SliceOf : Bool → (goal : List ℕ) → (steps : ℕ) → Place → Player → List (List ℕ) → BenchState → Player → List (List ℕ) → BenchState → Type 0
SliceOf tells goal steps (place.At c) old arena start new arena' end = IsHost tells goal old arena start c new arena' end
SliceOf tells goal steps (place.In call len left next) old arena start new arena' end = Slice tells steps call len left next old arena start new arena' end
SliceOf tells goal steps (place.Comparing at) old arena start new arena' end = IsStill tells old arena start new arena' end
SliceOf tells goal steps place.Closing old arena start new arena' end = IsStill tells old arena start new arena' end
SliceOf tells goal steps (place.Ended e) old arena start new arena' end = Unit {0}
