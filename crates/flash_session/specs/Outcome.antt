-- How a script ends: with all moves made, at a call that failed, or by a fault.
use Rattle.std.specs.Prelude.{◌≡◌, ◌≢◌, ◌<◌, ℕ, List, Option, Some, None, Ok, Err}
use Rattle.bench_model.specs.Counted.{BenchFault, store, device}
use Rattle.bench_model.specs.History.{Leaves}
use Rattle.bench_model.specs.State.{BenchState, cells_half}
use Rattle.target_core.specs.World.{World}
use Rattle.algo_calls.specs.declared.call.Call.{Call}
use Rattle.algo_calls.specs.declared.call.CallEnd.{CallEnd}
use Rattle.flash_session.specs.declared.session.SessionEnd.{SessionEnd}
use Rattle.flash_session.specs.declared.session.SessionEnd.TheVariants as end
use Rattle.flash_session.specs.Differs.{DiffersFirst}
use Rattle.flash_session.specs.Moves.{Move, Stand, failure, run, IsLeftOnWay}
use Rattle.flash_session.specs.Plays.{BreaksOff, IsNotDone}
use Rattle.flash_session.specs.Script.{Leg, Broken, script}

-- the moves are all made, and leave these cells
pub record GoTo (a : Stand) (moves : List Move) (cells : List ℕ) : Type 0 where
  pub last : Stand
  pub ran : run a moves ≡ Ok last
  pub leaves : last.world.cells ≡ cells

-- a call is the first that isn't done, and leaves these cells
pub record FailAt (a : Stand) (moves : List Move) (number : ℕ) (call : Call) (e : CallEnd) (cells : List ℕ) : Type 0 where
  pub at : World
  pub ran : run a moves ≡ Err (failure number call e at)
  pub leaves : at.cells ≡ cells

-- the end of the moves and of the comparison after them, with the cells that they leave
abbrev pub IsEnd : Stand → List Move → List ℕ → SessionEnd → List ℕ → Type 0
IsEnd a moves goal (end.Reached r) cells = GoTo a moves cells × (cells ≡ goal)
IsEnd a moves goal (end.Mismatch d) cells = GoTo a moves cells × DiffersFirst goal cells d
IsEnd a moves goal (end.CallFailed number call e) cells = FailAt a moves number call e cells
IsEnd a moves goal end.DeviceFault cells = ⊥
IsEnd a moves goal end.StoreFault cells = ⊥

-- how a session ends on a bench: it ends as `IsEnd` says, or a fault of the device or of the job file breaks it off at a point of the path
abbrev pub EndsIn : Stand → List Move → List ℕ → SessionEnd → BenchState → Type 0
EndsIn a moves goal (end.Reached r) new = IsEnd a moves goal (end.Reached r) new.cells
EndsIn a moves goal (end.Mismatch d) new = IsEnd a moves goal (end.Mismatch d) new.cells
EndsIn a moves goal (end.CallFailed number call e) new = IsEnd a moves goal (end.CallFailed number call e) new.cells
EndsIn a moves goal end.DeviceFault new = BreaksOff a moves new
EndsIn a moves goal end.StoreFault new = BreaksOff a moves new

-- For some choice of the bytes that broken-off operations leave, the end, the cells and each moment are those of the script of these
-- regions. The goal is a goal for all cells.
pub record Follows (legs : List Leg) (goal : List ℕ) (a : Stand) (e : SessionEnd) (old new : BenchState) : Type 0 where
  pub broken : Broken
  pub ends : EndsIn a (script legs broken) goal e new
  pub moments : Leaves (cells_half old) (cells_half new) (IsLeftOnWay a (script legs broken))

abbrev pub end_fault : SessionEnd → Option BenchFault
end_fault (end.Reached r) = None
end_fault (end.Mismatch d) = None
end_fault (end.CallFailed number call e) = None
end_fault end.DeviceFault = Some device
end_fault end.StoreFault = Some store

-- What each end of a session says, on every bench. A difference lies in the device, and its two bytes are unequal. A call that failed has a
-- number; it wasn't done, and no device fault broke it off.
abbrev pub IsSound : ℕ → SessionEnd → Type 0
IsSound size (end.Reached r) = Unit {0}
IsSound size (end.Mismatch d) = (d.at < size) × (d.want ≢ d.got)
IsSound size (end.CallFailed number call e) = IsNotDone number e
IsSound size end.DeviceFault = Unit {0}
IsSound size end.StoreFault = Unit {0}

-- an end at which the script came to its comparison
abbrev pub IsCompared : SessionEnd → Type 0
IsCompared (end.Reached r) = Unit {0}
IsCompared (end.Mismatch d) = Unit {0}
IsCompared (end.CallFailed number call e) = ⊥
IsCompared end.DeviceFault = ⊥
IsCompared end.StoreFault = ⊥

abbrev pub IsReached : SessionEnd → Type 0
IsReached (end.Reached r) = Unit {0}
IsReached (end.Mismatch d) = ⊥
IsReached (end.CallFailed number call e) = ⊥
IsReached end.DeviceFault = ⊥
IsReached end.StoreFault = ⊥
