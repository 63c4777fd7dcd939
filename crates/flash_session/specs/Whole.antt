-- A whole script, played turn by turn up to the close.
use Rattle.std.specs.Prelude.{◌≡◌, ℕ, Bool, true, false, IsTrue, List, length, Option, Some, None}
use Rattle.bench_model.specs.State.{BenchState}
use Rattle.bench_model.specs.Calls.{FileIsRead}
use Rattle.bench_model.specs.Counted.{is_store_fault, is_device_fault, IsCounted}
use Rattle.flash_session.specs.declared.session.SessionEnd.{SessionEnd}
use Rattle.flash_session.specs.declared.session.SessionEnd.TheVariants as end
use Rattle.flash_session.specs.Moves.{Move, Stand}
use Rattle.flash_session.specs.Outcome.{IsReached}
use Rattle.flash_session.specs.declared.cursor.Place.{Place}
use Rattle.flash_session.specs.declared.cursor.Place.TheVariants as place
use Rattle.flash_session.specs.declared.target_end.TargetEnd.{TargetEnd}
use Rattle.flash_session.specs.declared.target_end.TargetEnd.TheVariants as ended
use Rattle.flash_session.specs.declared.player.Player.{Player}
use Rattle.flash_session.specs.Fit.{Fit}
use Rattle.flash_session.specs.Stands.{StandsOn}
use Rattle.flash_session.specs.Turns.{SameTarget, GoesOn, place_fault}

abbrev pub at_close : Place → Bool
at_close (place.At c) = false
at_close (place.In call len left next) = false
at_close (place.Comparing at) = false
at_close place.Closing = true
at_close (place.Ended e) = false

-- a place before the close: more is to be played
abbrev pub IsPlaying : Place → Type 0
IsPlaying (place.At c) = Unit {0}
IsPlaying (place.In call len left next) = Unit {0}
IsPlaying (place.Comparing at) = Unit {0}
IsPlaying place.Closing = ⊥
IsPlaying (place.Ended e) = ⊥

-- an end before the close
abbrev pub IsEndBefore : TargetEnd → Type 0
IsEndBefore ended.Done = ⊥
IsEndBefore (ended.Open fault) = ⊥
IsEndBefore (ended.Survey fault) = ⊥
IsEndBefore (ended.CallFailed number call e) = Unit {0}
IsEndBefore (ended.Mismatch d) = Unit {0}
IsEndBefore ended.StoreFault = Unit {0}
IsEndBefore ended.DeviceFault = Unit {0}

-- a target that hasn't been closed may be at this place
abbrev pub IsPlayed : Place → Type 0
IsPlayed (place.At c) = Unit {0}
IsPlayed (place.In call len left next) = Unit {0}
IsPlayed (place.Comparing at) = Unit {0}
IsPlayed place.Closing = Unit {0}
IsPlayed (place.Ended e) = IsEndBefore e

-- how a session ends if its script ended in this way
abbrev pub IsEndOf : TargetEnd → SessionEnd → Type 0
IsEndOf ended.Done e = ⊥
IsEndOf (ended.Open fault) e = ⊥
IsEndOf (ended.Survey fault) e = ⊥
IsEndOf (ended.CallFailed number call x) e = e ≡ end.CallFailed number call x
IsEndOf (ended.Mismatch d) e = e ≡ end.Mismatch d
IsEndOf ended.StoreFault e = e ≡ end.StoreFault
IsEndOf ended.DeviceFault e = e ≡ end.DeviceFault

-- the end of a session whose target stops at this place; none while more is to be played
abbrev pub IsStop : Place → Option SessionEnd → Type 0
IsStop (place.At c) None = Unit {0}
IsStop (place.In call len left next) None = Unit {0}
IsStop (place.Comparing at) None = Unit {0}
IsStop place.Closing (Some e) = IsReached e
IsStop (place.Ended t) (Some e) = IsEndOf t e
IsStop _ _ = ⊥

-- Turns before the close: the target continued its own script, and the file was only read.
pub record Played (tells : Bool) (goal : List ℕ) (old : Player) (arena : List (List ℕ)) (start : BenchState) (new : Player) (arena' : List (List ℕ))
    (end : BenchState) : Type 0 where
  pub goes : IsTrue tells → (a : Stand) (way : List Move) → StandsOn a way goal old arena start → GoesOn a way goal new arena' start end
  pub same : SameTarget old new
  pub page : length new.page.items ≡ length old.page.items
  pub fit : Fit tells new arena' end
  pub before : IsPlayed new.place
  pub count : end.cell_count ≡ start.cell_count
  pub file : FileIsRead tells start end
  pub device : IsCounted start.device_faults end.device_faults (is_device_fault (place_fault new.place))
  pub store : IsCounted start.store_faults end.store_faults (is_store_fault (place_fault new.place))
