-- What a stop leaves of the job file.
use Rattle.std.specs.Prelude.{◌≡◌, ◌⊎◌, ℕ, Bool, IsTrue, List, [], ◌∷◌, ◌++◌, take, Result, OnOk}
use Rattle.faults.specs.Counts.{HasCause}
use Rattle.bench_model.specs.History.{Half, left, Leaves}
use Rattle.bench_model.specs.State.{BenchState, file_half}
use Rattle.bench_model.specs.Calls.{CellsStay, Follows}
use Rattle.bench_model.specs.declared.bench_fault.StoreFault.{StoreFault}
use Rattle.job_text.specs.Files.{IsFree, IsWhole, IsClosed}

-- byte 0 exists and closes the gate
abbrev pub IsShut : List ℕ → Type 0
IsShut file = take 1 file ≡ 0 ∷ []

-- byte 0 of the file is as before
abbrev pub KeepsGate : List ℕ → List ℕ → Type 0
KeepsGate old new = take 1 new ≡ take 1 old

-- bytes are appended to the file, and at each moment byte 0 stays as it is
pub record Appends {T : Type 0} (tells : Bool) (old new : BenchState) (bytes : List ℕ) (result : Result T StoreFault) : Type 0 where
  pub ok : IsTrue tells → OnOk result (new.file ≡ old.file ++ bytes)
  pub moments : Leaves (file_half old) (file_half new) (Follows KeepsGate (file_half old))
  pub cells : CellsStay old new
  pub cause : HasCause old.store_faults new.store_faults result

-- the file is free, or stands for the job with this body
abbrev pub IsFreeOrWhole : List ℕ → List ℕ → Type 0
IsFreeOrWhole body file = IsFree file ⊎ IsWhole body file

-- the file stands for the job with this body, or is free with the body after byte 0
abbrev pub IsWholeOrClosed : List ℕ → List ℕ → Type 0
IsWholeOrClosed body file = IsWhole body file ⊎ IsClosed body file

-- the file is one that a stop at the start may leave, or free, or stands for the job with this body
abbrev pub IsOfBegin : Half → List ℕ → List ℕ → Type 0
IsOfBegin start body file = left start file ⊎ IsFreeOrWhole body file

-- the file is one that a stop at the start may leave, or free: the job's gate wasn't opened
abbrev pub IsUnopened : Half → List ℕ → Type 0
IsUnopened start file = left start file ⊎ IsFree file
