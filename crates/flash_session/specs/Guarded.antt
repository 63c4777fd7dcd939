-- What a stop at any moment leaves of the job's file and of the cells, over all turns so far.
use Rattle.std.specs.Prelude.{◌≡◌, ◌<◌, ℕ, Bool, true, false, List, ◌∷◌, None}
use Rattle.bench_model.specs.Pairs.{PairsLeave, PairsInTurn}
use Rattle.bench_model.specs.State.{BenchState}
use Rattle.job_text.specs.Files.{IsWhole}
use Rattle.job_file.specs.Stops.{IsWholeOrClosed}
use Rattle.flash_session.specs.declared.cursor.Place.{Place}
use Rattle.flash_session.specs.declared.cursor.Place.TheVariants as place
use Rattle.flash_session.specs.declared.target_end.TargetEnd.{TargetEnd}
use Rattle.flash_session.specs.declared.target_end.TargetEnd.TheVariants as ended
use Rattle.flash_session.specs.declared.target_end.Turn.TheVariants as turn
use Rattle.flash_session.specs.Turns.{IsUnended, turn_of}

-- the file and cells that a stop leaves: the job with this body is whole
abbrev pub HasBody : List ℕ → List ℕ → List ℕ → Type 0
HasBody body f c = IsWhole body f

-- the file and cells that a stop leaves from the close on: the job is whole or closed, and the cells are the goal
abbrev pub IsAtClose : List ℕ → List ℕ → List ℕ → List ℕ → Type 0
IsAtClose body goal f c = IsWholeOrClosed body f × (c ≡ goal)

-- the contents of the job's file when a target has ended in this way
abbrev pub FileEnd : List ℕ → TargetEnd → List ℕ → Type 0
FileEnd body ended.Done f = f ≡ 0 ∷ body
FileEnd body (ended.Open fault) f = IsWhole body f
FileEnd body (ended.Survey fault) f = IsWhole body f
FileEnd body (ended.CallFailed number call e) f = IsWhole body f
FileEnd body (ended.Mismatch d) f = IsWhole body f
FileEnd body ended.StoreFault f = IsWholeOrClosed body f
FileEnd body ended.DeviceFault f = IsWhole body f

-- whether a target with this end never came to its close
abbrev pub has_no_close : TargetEnd → Bool
has_no_close (ended.CallFailed number call e) = true
has_no_close (ended.Mismatch d) = true
has_no_close ended.DeviceFault = true
has_no_close _ = false

abbrev pub FileAt : List ℕ → Place → List ℕ → Type 0
FileAt body (place.At c) f = IsWhole body f
FileAt body (place.In call len left next) f = IsWhole body f
FileAt body (place.Comparing at) f = IsWhole body f
FileAt body place.Closing f = IsWhole body f
FileAt body (place.Ended e) f = FileEnd body e f

-- What a stop leaves, as a pair of file and cells. Until a target has ended, each pair has the whole job. After its end there is a moment:
-- each pair before it has the whole job, and each pair from it on is one at the close. After a device fault, a call that failed or a
-- mismatch, that moment lies after all others.
pub record Guarded (body goal : List ℕ) (p : Place) (start now : BenchState) : Type 0 where
  pub going : IsUnended p → IsWhole body now.file × PairsLeave start now (HasBody body)
  pub file : FileAt body p now.file
  pub idle : p ≡ place.Ended ended.Done → now.operation ≡ None
  pub over : turn_of p ≡ turn.Ended → (at : ℕ) × PairsInTurn start now at (HasBody body) (IsAtClose body goal)
      × ((e : TargetEnd) → p ≡ place.Ended e → has_no_close e ≡ true → now.moment < at)
