-- What preparing a call leaves.
use Rattle.std.specs.Prelude.{◌≡◌, ℕ, Bool, IsTrue, List, length, Result, Ok, Err}
use Rattle.bench_model.specs.declared.bench_fault.StoreFault.{StoreFault}
use Rattle.target_core.specs.Windows.{OnlyIn}
use Rattle.algo_calls.specs.declared.call.Call.{Call}
use Rattle.algo_calls.specs.declared.calls_in.CallsIn.{CallsIn}
use Rattle.algo_calls.specs.Frames.{asked, fuel_of, first_point}
use Rattle.algo_calls.specs.Shows.{setup_at, point_at, world_at, Fits}
use Rattle.flash_session.specs.Steps.{bytes_at}

-- the target is at the first point of a call with these bytes; they are the goal's, where the bench tells its contents
pub record IsPrepared (tells : Bool) (old : CallsIn) (arena : List (List ℕ)) (window : ℕ) (goal : List ℕ) (call : Call) (from len left : ℕ) (new : CallsIn)
    (arena' : List (List ℕ)) : Type 0 where
  pub bytes : List ℕ
  pub long : length bytes ≡ len
  pub are : IsTrue tells → bytes ≡ bytes_at goal from len
  pub fuel : left ≡ fuel_of (setup_at old) call
  pub first : (cells : List ℕ) → point_at new arena' window cells ≡ first_point (setup_at old) (world_at old arena window cells) (asked call bytes)
  pub return_at : new.machine.return_at ≡ (setup_at old).layout.return_at
  pub setup : setup_at new ≡ setup_at old
  pub unit : new.machine.unit ≡ old.machine.unit
  pub only : OnlyIn window arena arena'
  pub fits : Fits new arena' window

-- a call was prepared, or nothing changed because the job file couldn't be read
abbrev pub Prepares : Bool → CallsIn → List (List ℕ) → (window : ℕ) → (goal : List ℕ) → Call → (from len : ℕ) → Result ℕ StoreFault
    → CallsIn → List (List ℕ) → Type 0
Prepares tells old arena window goal call from len (Ok left) new arena' = IsPrepared tells old arena window goal call from len left new arena'
Prepares tells old arena window goal call from len (Err e) new arena' = (new ≡ old) × (arena' ≡ arena)
