-- The state of a target in its script: what has been done, and what is left.
use Rattle.std.specs.Prelude.{◌≡◌, ℕ, List, [], ◌∷◌, ◌++◌, length, take, Ok}
use Rattle.bench_model.specs.State.{BenchState}
use Rattle.target_core.specs.World.{World}
use Rattle.target_core.specs.Path.{Point}
use Rattle.algo_calls.specs.declared.call.Call.{Call}
use Rattle.algo_calls.specs.Setups.{Setup}
use Rattle.algo_calls.specs.Frames.{asked, fuel_of, first_point}
use Rattle.flash_session.specs.Differs.{DiffersFirst}
use Rattle.flash_session.specs.Moves.{Move, Make, Stand, stand_at, run}
use Rattle.flash_session.specs.Outcome.{GoTo, FailAt}
use Rattle.flash_session.specs.Plays.{BreaksOff}
use Rattle.flash_session.specs.Script.{Leg, Broken, script}
use Rattle.flash_session.specs.declared.cursor.Place.{Place}
use Rattle.flash_session.specs.declared.cursor.Place.TheVariants as place
use Rattle.flash_session.specs.declared.target_end.TargetEnd.{TargetEnd}
use Rattle.flash_session.specs.declared.target_end.TargetEnd.TheVariants as ended
use Rattle.flash_session.specs.declared.player.Player.{Player}
use Rattle.flash_session.specs.Midway.{Midway}
use Rattle.flash_session.specs.Rest.{Legs, all_legs, rest_of}
use Rattle.flash_session.specs.Targets.{setup_now, legs_for, point_for}

-- Whatever cells the resets still to come leave, there is a script that begins with the moves `way` and continues with the rest.
abbrev pub OnWay : Legs → List Move → (Broken → List Move) → Type 0
OnWay l way later = (b : Broken) → (whole : Broken) × (script (all_legs l) whole ≡ way ++ later b)

-- the moves that are left at the end: none
abbrev pub none : Broken → List Move
none b = []

-- the last of the moves `way` is a call in progress, at this point of its path and with `left` steps of fuel
pub record InCall (s : Setup) (a : Stand) (way : List Move) (call : Call) (len left made : ℕ) (here : Point) (return_at : ℕ) : Type 0 where
  pub done : List Move
  pub bytes : List ℕ
  pub before : World
  pub is : way ≡ done ++ (Make s call bytes ∷ [])
  pub long : length bytes ≡ len
  pub ran : run a done ≡ Ok (stand_at made before)
  pub back : return_at ≡ s.layout.return_at
  pub midway : Midway s.layout.return_at (fuel_of s call) (first_point s before (asked call bytes)) left here

-- an end of a target's script, with the cells and the operation that it left
abbrev pub EndIs : Stand → List Move → List ℕ → TargetEnd → BenchState → Type 0
EndIs a moves goal ended.Done now = GoTo a moves now.cells × (now.cells ≡ goal)
EndIs a moves goal (ended.Open fault) now = ⊥
EndIs a moves goal (ended.Survey fault) now = ⊥
EndIs a moves goal (ended.CallFailed number call e) now = FailAt a moves number call e now.cells
EndIs a moves goal (ended.Mismatch d) now = GoTo a moves now.cells × DiffersFirst goal now.cells d
EndIs a moves goal ended.StoreFault now = BreaksOff a moves now
EndIs a moves goal ended.DeviceFault now = BreaksOff a moves now

-- the moves `way` are the beginning of a script that ends in this way
pub record HasEnded (legs : List Leg) (goal : List ℕ) (a : Stand) (way : List Move) (e : TargetEnd) (now : BenchState) : Type 0 where
  pub broken : Broken
  pub later : List Move
  pub whole : script legs broken ≡ way ++ later
  pub ends : EndIs a (script legs broken) goal e now

-- After the moves `way`, which include the call in progress, a target is at this place of its script.
abbrev pub Stands : Legs → (goal : List ℕ) → Setup → Stand → List Move → Place → ℕ → Point → ℕ → BenchState → Type 0
Stands l goal s a way (place.At c) made here return_at now = OnWay l way (rest_of l c) × (run a way ≡ Ok (stand_at made here.world))
Stands l goal s a way (place.In call len left next) made here return_at now = OnWay l way (rest_of l next) × InCall s a way call len left made here return_at
Stands l goal s a way (place.Comparing at) made here return_at now = OnWay l way none × (run a way ≡ Ok (stand_at made here.world))
    × (take at here.world.cells ≡ take at goal)
Stands l goal s a way place.Closing made here return_at now = OnWay l way none × (run a way ≡ Ok (stand_at made here.world)) × (here.world.cells ≡ goal)
Stands l goal s a way (place.Ended e) made here return_at now = HasEnded (all_legs l) goal a way e now

-- the state of a player with this goal, with its window of the arena, on a bench
abbrev pub StandsOn : Stand → List Move → (goal : List ℕ) → Player → List (List ℕ) → BenchState → Type 0
StandsOn a way goal t arena now = Stands (legs_for t goal) goal (setup_now t) a way t.place t.made (point_for t arena now.cells) t.calls.machine.return_at now
