-- What a turn does to a target and its bench.
use Rattle.std.specs.Prelude.{◌≡◌, ◌<◌, ◌+◌, ℕ, Bool, IsTrue, Option, Some, None, List, ◌∷◌, ◌++◌, drop, length}
use Rattle.bench_model.specs.History.{Leaves}
use Rattle.bench_model.specs.State.{BenchState, file_half, cells_half}
use Rattle.bench_model.specs.Calls.{FileIsRead, CellsStay}
use Rattle.bench_model.specs.Counted.{BenchFault, store, device, is_store_fault, is_device_fault, IsCounted}
use Rattle.job_file.specs.Stops.{IsWholeOrClosed}
use Rattle.target_core.specs.declared.run.RunEnd.{RunEnd}
use Rattle.target_core.specs.Windows.{OnlyIn}
use Rattle.algo_calls.specs.declared.call.Call.{Call}
use Rattle.algo_calls.specs.declared.call.CallEnd.{CallEnd}
use Rattle.algo_calls.specs.declared.call.CallEnd.TheVariants as call_end
use Rattle.algo_calls.specs.Ends.{call_end_of, success_of}
use Rattle.flash_session.specs.declared.cursor.Cursor.{Cursor}
use Rattle.flash_session.specs.declared.cursor.Place.{Place}
use Rattle.flash_session.specs.declared.cursor.Place.TheVariants as place
use Rattle.flash_session.specs.declared.target_end.TargetEnd.{TargetEnd}
use Rattle.flash_session.specs.declared.target_end.TargetEnd.TheVariants as ended
use Rattle.flash_session.specs.declared.target_end.Turn.{Turn}
use Rattle.flash_session.specs.declared.target_end.Turn.TheVariants as turn
use Rattle.flash_session.specs.Moves.{Move, Stand, IsLeftOnWay}
use Rattle.flash_session.specs.declared.player.Player.{Player}
use Rattle.flash_session.specs.Opened.{session_fault}
use Rattle.flash_session.specs.Regions.{RegionIndex}
use Rattle.flash_session.specs.Surveys.{survey_fault}
use Rattle.flash_session.specs.Fit.{Fit, togo}
use Rattle.flash_session.specs.Stands.{StandsOn}
use Rattle.flash_session.specs.Targets.{setup_on, map_on}

-- A target continued by some moves, and what a stop at any moment left is what a stop at a point of its moves leaves.
pub record GoesOn (a : Stand) (way : List Move) (goal : List ℕ) (new : Player) (arena : List (List ℕ)) (start end : BenchState) : Type 0 where
  pub more : List Move
  pub stands : StandsOn a (way ++ more) goal new arena end
  pub moments : Leaves (cells_half start) (cells_half end) (IsLeftOnWay a (way ++ more))

-- a turn keeps the target's script: its setups, maps and plans
pub record SameTarget (old new : Player) : Type 0 where
  pub setups : (r : RegionIndex) → setup_on new r ≡ setup_on old r
  pub maps : (r : RegionIndex) → map_on new r ≡ map_on old r
  pub work : new.work ≡ old.work
  pub window : new.window ≡ old.window

abbrev pub IsUnended : Place → Type 0
IsUnended (place.At c) = Unit {0}
IsUnended (place.In call len left next) = Unit {0}
IsUnended (place.Comparing at) = Unit {0}
IsUnended place.Closing = Unit {0}
IsUnended (place.Ended e) = ⊥

-- the fault that ended a target, and the fault of its place
abbrev pub target_fault : TargetEnd → Option BenchFault
target_fault ended.Done = None
target_fault (ended.Open fault) = session_fault fault
target_fault (ended.Survey fault) = survey_fault fault
target_fault (ended.CallFailed number call e) = None
target_fault (ended.Mismatch d) = None
target_fault ended.StoreFault = Some store
target_fault ended.DeviceFault = Some device

abbrev pub place_fault : Place → Option BenchFault
place_fault (place.At c) = None
place_fault (place.In call len left next) = None
place_fault (place.Comparing at) = None
place_fault place.Closing = None
place_fault (place.Ended e) = target_fault e

abbrev pub turn_of : Place → Turn
turn_of (place.At c) = turn.More
turn_of (place.In call len left next) = turn.More
turn_of (place.Comparing at) = turn.More
turn_of place.Closing = turn.More
turn_of (place.Ended e) = turn.Ended

-- the place after a call with this end: the next cursor if the call is done, else the end of the target
abbrev pub judged : ℕ → Call → Cursor → CallEnd → Place
judged made call next call_end.Done = place.At next
judged made call next (call_end.Refused r0) = place.Ended (ended.CallFailed (made + 1) call (call_end.Refused r0))
judged made call next (call_end.Ended e) = place.Ended (ended.CallFailed (made + 1) call (call_end.Ended e))
judged made call next call_end.DeviceFault = place.Ended ended.DeviceFault

abbrev pub made_by : ℕ → CallEnd → ℕ
made_by made call_end.Done = made + 1
made_by made (call_end.Refused r0) = made
made_by made (call_end.Ended e) = made
made_by made call_end.DeviceFault = made

abbrev pub Judges : Player → Call → ℕ → Cursor → RunEnd → Player → Type 0
Judges old call len next end new =
    new ≡ record old {
      made = made_by old.made (call_end_of (success_of call len) end);
      place = judged old.made call next (call_end_of (success_of call len) end);
    }

-- what the close leaves of the file
abbrev pub EndFile : TargetEnd → List ℕ → List ℕ → Type 0
EndFile ended.Done old new = new ≡ 0 ∷ drop 1 old
EndFile (ended.Open fault) old new = ⊥
EndFile (ended.Survey fault) old new = ⊥
EndFile (ended.CallFailed number call e) old new = ⊥
EndFile (ended.Mismatch d) old new = ⊥
EndFile ended.StoreFault old new = IsWholeOrClosed (drop 1 old) new
EndFile ended.DeviceFault old new = ⊥

abbrev pub ClosedFile : Place → List ℕ → List ℕ → Type 0
ClosedFile (place.At c) old new = ⊥
ClosedFile (place.In call len left next) old new = ⊥
ClosedFile (place.Comparing at) old new = ⊥
ClosedFile place.Closing old new = ⊥
ClosedFile (place.Ended e) old new = EndFile e old new

-- The close ends the target. Whenever it is stopped, it leaves the job whole or closed.
pub record Closes (tells : Bool) (new : Place) (start end : BenchState) : Type 0 where
  pub moments : IsTrue tells → Leaves (file_half start) (file_half end) (IsWholeOrClosed (drop 1 start.file))
  pub file : IsTrue tells → ClosedFile new start.file end.file
  pub cells : CellsStay start end
  pub over : turn_of new ≡ turn.Ended

abbrev pub IsDone : Place → Type 0
IsDone (place.At c) = ⊥
IsDone (place.In call len left next) = ⊥
IsDone (place.Comparing at) = ⊥
IsDone place.Closing = ⊥
IsDone (place.Ended ended.Done) = Unit {0}
IsDone (place.Ended _) = ⊥

-- A turn that isn't the close only reads the file, and doesn't end the target as done.
pub record KeepsFile (tells : Bool) (new : Place) (start end : BenchState) : Type 0 where
  pub read : FileIsRead tells start end
  pub other : IsDone new → ⊥

abbrev pub FileTurn : Bool → Place → Place → BenchState → BenchState → Type 0
FileTurn tells (place.At c) new start end = KeepsFile tells new start end
FileTurn tells (place.In call len left next) new start end = KeepsFile tells new start end
FileTurn tells (place.Comparing at) new start end = KeepsFile tells new start end
FileTurn tells place.Closing new start end = Closes tells new start end
FileTurn tells (place.Ended e) new start end = KeepsFile tells new start end

-- a turn of a target that hasn't ended, with this goal
pub record Turns (tells : Bool) (goal : List ℕ) (old : Player) (arena : List (List ℕ)) (start : BenchState) (new : Player) (arena' : List (List ℕ))
    (end : BenchState) : Type 0 where
  pub told : IsTrue tells → (a : Stand) (way : List Move) → StandsOn a way goal old arena start → GoesOn a way goal new arena' start end
  pub same : SameTarget old new
  pub only : OnlyIn old.window arena arena'
  pub page : length new.page.items ≡ length old.page.items
  pub fit : Fit tells new arena' end
  pub nearer : togo new < togo old
  pub count : end.cell_count ≡ start.cell_count
  pub file : FileTurn tells old.place new.place start end
  -- a fault is an end exactly if it was counted
  pub device : IsCounted start.device_faults end.device_faults (is_device_fault (place_fault new.place))
  pub store : IsCounted start.store_faults end.store_faults (is_store_fault (place_fault new.place))
